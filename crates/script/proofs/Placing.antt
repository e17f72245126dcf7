-- The place of the first fault: a right script stands before it.
use Rattle.std.proofs.Common.{◌≡◌, ℕ, ◌+◌, ◌-◌, ◌≤◌, List, [], ◌∷◌, ◌++◌, length, Some, None, Option, Ok, Err, Result, sym, refl, ap, ◌∙◌, subst, inl, inr, append-nil, arith, length-append}
use Rattle.std.proofs.lemmas.Bool.{ne_eqb, le-ltb, cond-false}
use Rattle.std.specs.Result.{MatchResult, IsErrAnd}
use Rattle.stream.specs.Answers.{Answer}
use Rattle.script.specs.declared.refusal.ScriptFault.{ScriptFault}
use Rattle.script.specs.declared.refusal.ScriptFault.TheVariants.{TooLong, UnknownCommand, CutShort}
use Rattle.script.specs.declared.refusal.ScriptRefusal.{ScriptRefusal}
use Rattle.script.specs.Commands.{Right, StandsFor, wait, none, item, empty, next}
use Rattle.script.specs.Places.{FaultAt, FaultRightly}
use Rattle.script.specs.Beginnings.{FaultAfter, Faulty, Checks}
use Rattle.script.specs.Checks.{Checked, fault_from, refusal}

abbrev pub refused_at : ScriptFault → ℕ → ℕ → ScriptRefusal
refused_at fault n place = record { fault = fault; script = n; place = place }

-- a right script is passed over
past : {b : List ℕ} {l : List (Answer ℕ)} (n p : ℕ) (r : List ℕ) → StandsFor b l → (q : ℕ) → q ≡ p + length b → fault_from n p (b ++ r) ≡ fault_from n q r
past n p r empty q h = let i : p ≡ q = omega arith in ap (λ k. fault_from n k r) i
past n p r (next wait w) q h = past n (p + 1) r w q (omega arith)
past n p r (next none w) q h = past n (p + 1) r w q (omega arith)
past n p r (next (item e) w) q h = past n (p + 3) r w q (omega arith)

pub no_fault : {s : List ℕ} (n : ℕ) → Right s → fault_from n 0 s ≡ None
no_fault {s = s} n w = ap (fault_from n 0) (sym (append-nil s)) ∙ past n 0 [] w.1 (length s) (omega arith)

-- a fault is named by its kind
named : (f : ScriptFault) (n p : ℕ) (r : List ℕ) → Faulty f r → fault_from n p r ≡ Some (refused_at f n p)
named TooLong n p r h = absurd h
named UnknownCommand n p [] h = absurd h
named UnknownCommand n p (b ∷ s) h = simp (ne_eqb b 0x57 h.0, ne_eqb b 0x4E h.1, ne_eqb b 0x49 h.2)
named CutShort n p [] h = absurd h
named CutShort n p (b ∷ []) h = ap (λ k. fault_from n p (k ∷ [])) h.0
named CutShort n p (b ∷ high ∷ []) h = ap (λ k. fault_from n p (k ∷ high ∷ [])) h.0
named CutShort n p (b ∷ high ∷ low ∷ s) h = absurd (omega (arith, h.1))

-- a fault after a right script is the first
pub first : (f : ScriptFault) (n : ℕ) (s b r : List ℕ) → s ≡ b ++ r → Right b → Faulty f r → fault_from n 0 s ≡ Some (refused_at f n (length b))
first f n s b r e w k = ap (fault_from n 0) e ∙ past n 0 r w.1 (length b) (omega arith) ∙ named f n (length b) r k

one_place : (f g : ScriptFault) (n p q : ℕ) {o : Option ScriptRefusal} → o ≡ Some (refused_at f n p) → o ≡ Some (refused_at g n q) → p ≡ q
one_place f g n p q h k = let e : refused_at f n p ≡ refused_at g n q = cc in ap (λ (r : ScriptRefusal). r.place) e

-- bytes that are not too long are refused for their first fault
module _ (s : List ℕ) (few : length s ≤ 4096) where
  pub by_fault : (n : ℕ) → refusal n s ≡ fault_from n 0 s
  by_fault n = cond-false _ _ _ (le-ltb 4096 (length s) few)

  fault_at : {Kind : List ℕ → Type 0} {f : ScriptFault} {left : ℕ} → (w : FaultAfter s f left) → Kind w.rest → FaultAt Kind s (length w.before)
  fault_at {f = f} w kind = record {
    before = w.before;
    rest = w.rest;
    whole = w.whole;
    right = w.right;
    here = refl;
    fault = kind;
    only = λ b r e v k.
        let here = first f 0 s w.before w.rest w.whole w.right w.begins in
        elim k [
          | inl u ↦ one_place _ _ _ _ _ (first UnknownCommand 0 s b r e v u) here
          | inr u ↦ one_place _ _ _ _ _ (first CutShort 0 s b r e v u) here
        ];
    short = few;
  }

  rightly : (f : ScriptFault) {left : ℕ} → (w : FaultAfter s f left) → FaultRightly s (length w.before) f
  rightly TooLong w = absurd w.begins
  rightly UnknownCommand w = fault_at w w.begins
  rightly CutShort w = fault_at w w.begins

  refused_here : (n : ℕ) (f : ScriptFault) {left : ℕ} → (w : FaultAfter s f left) → Checked n s (Err (refused_at f n (length w.before)))
  refused_here n f w =
      let fault = first f n s w.before w.rest w.whole w.right w.begins in
      (by_fault n ∙ fault, λ v. absurd (cc (fault, no_fault n v)), (refl, rightly f w))

  pub refused : (n : ℕ) (f : ScriptFault) (left : ℕ) → FaultAfter s f left → Checked n s (Err (refused_at f n (length s - left)))
  refused n f left w =
      let place : length w.before ≡ length s - left = omega (arith, ap length w.whole, length-append w.before w.rest, w.here) in
      subst (λ p. Checked n s (Err (refused_at f n p))) place (refused_here n f w)

  -- a check's answer with its place counted from the front
  abbrev pub Placed : ℕ → Result (Unit {0}) (ScriptFault × ℕ) → Result (Unit {0}) ScriptRefusal → Type 0
  Placed n r m = MatchResult r (λ u. m ≡ Ok u) (λ e. IsErrAnd m (λ z. z ≡ refused_at e.0 n (length s - e.1)))

  pub checked : (n : ℕ) (r : Result (Unit {0}) (ScriptFault × ℕ)) → Checks s r → (m : Result (Unit {0}) ScriptRefusal) → Placed n r m → MatchResult m (λ u. Right s) (λ z. Checked n s (Err z))
  checked n (Ok u) w (Ok v) h = w
  checked n (Ok u) w (Err z) h = cc
  checked n (Err e) w (Ok v) h = absurd h
  checked n (Err e) w (Err z) h = subst (λ x. Checked n s (Err x)) (sym h) (refused n e.0 e.1 w)
