-- The delay law, of every run.
use Rattle.std.proofs.Common.{◌≡◌, ℕ, zero, suc, ◌+◌, List, [], ◌∷◌, ◌++◌, length, Some, None, Option, sym, refl, ap, ◌∙◌, subst, ap₂, subst₂, add-one, length-append}
use Rattle.std.specs.List.{fold}
use Rattle.std.proofs.lemmas.List.Sums.{fold-append}
use Rattle.stream.specs.declared.poll.Poll.TheVariants.{Ready, Pending}
use Rattle.stream.specs.declared.stream.Stream.{Ghosts as Streams}
use Rattle.stream.specs.declared.callback.Callback.{Ghosts as Callbacks}
use Rattle.stream.specs.Answers.{Answer, Agree, Matching, Pairwise, first, rest, settled}
use Rattle.stream.specs.Pipelines.{Polled}
use Rattle.law.specs.declared.shown.Turn.{Turn}
use Rattle.law.specs.declared.shown.Turn.TheVariants as turns
use Rattle.law.specs.declared.shown.Shown.{Shown}
use Rattle.law.specs.declared.shown.Shown.TheVariants as shown
use Rattle.law.specs.Laws.{DelayLaw, PollsOfBoth, SameSoFar, all_seen, firsts, of_first, of_second}
use Rattle.law.specs.Laws.PollsOfBoth.{first_polled, none_yet, second_polled}

-- what is left of a list after n polls
abbrev rests : {A : Type 0} → ℕ → List (Answer A) → List (Answer A)
rests zero xs = xs
rests (suc n) xs = rests n (rest xs)

-- a stream with the list xs has given the answers so far, and has ys left
abbrev Gave : {A : Type 0} → List (Answer A) → List (Answer A) → List (Answer A) → Type 0
Gave so_far xs ys = (so_far ≡ firsts (length so_far) xs) × (ys ≡ rests (length so_far) xs)

one_more : {A : Type 0} (n : ℕ) (xs : List (Answer A)) → (firsts n xs ++ (first (rests n xs) ∷ []) ≡ firsts (suc n) xs) × (rest (rests n xs) ≡ rests (suc n) xs)
one_more zero xs = (refl, refl)
one_more (suc n) xs = let h = one_more n (rest xs) in (ap (λ l. first xs ∷ l) h.0, h.1)

gave_more : {A : Type 0} (so_far xs ys ys' : List (Answer A)) (r : Answer A) → Gave so_far xs ys → r ≡ first ys → ys' ≡ rest ys → Gave (so_far ++ (r ∷ [])) xs ys'
gave_more so_far xs ys ys' r g e after =
    let n = length so_far in
    let count : length (so_far ++ (r ∷ [])) ≡ suc n = length-append so_far (r ∷ []) ∙ add-one n in
    let more = one_more n xs in (
      ap₂ (λ l a. l ++ (a ∷ [])) g.0 (e ∙ ap first g.1) ∙ more.0 ∙ ap (λ k. firsts k xs) (sym count),
      after ∙ ap rest g.1 ∙ more.1 ∙ ap (λ k. rests k xs) (sym count),
    )

module _ {A B : Type 0} where
  first_more : (l : List (Shown A B)) (r : Answer A) → (of_first (l ++ (shown.First r ∷ [])) ≡ of_first l ++ (r ∷ [])) × (of_second (l ++ (shown.First r ∷ [])) ≡ of_second l)
  first_more [] r = (refl, refl)
  first_more (shown.First a ∷ l) r = let h = first_more l r in (ap (λ k. a ∷ k) h.0, h.1)
  first_more (shown.Second a ∷ l) r = let h = first_more l r in (h.0, ap (λ k. a ∷ k) h.1)

  second_more : (l : List (Shown A B)) (r : Answer B) → (of_first (l ++ (shown.Second r ∷ [])) ≡ of_first l) × (of_second (l ++ (shown.Second r ∷ [])) ≡ of_second l ++ (r ∷ []))
  second_more [] r = (refl, refl)
  second_more (shown.First a ∷ l) r = let h = second_more l r in (ap (λ k. a ∷ k) h.0, h.1)
  second_more (shown.Second a ∷ l) r = let h = second_more l r in (h.0, ap (λ k. a ∷ k) h.1)

-- the settled answers of a front of a list are a front of its settled answers
abbrev Front : {A : Type 0} → List (Option A) → List (Option A) → Type 0
Front [] us = Unit {0}
Front (o ∷ os) [] = (o ≡ None) × Front os []
Front (o ∷ os) (u ∷ us) = (o ≡ u) × Front os us

firsts_front : {A : Type 0} (n : ℕ) (xs : List (Answer A)) → Front (settled (firsts n xs)) (settled xs)
firsts_front zero xs = tt
firsts_front (suc n) [] = (refl, firsts_front n [])
firsts_front (suc n) (Pending ∷ xs) = firsts_front n xs
firsts_front (suc n) (Ready o ∷ xs) = (refl, firsts_front n xs)

module _ {A B : Type 0} (R : A → B → Type 0) where
  fronts_same : (os : List (Option A)) (ps : List (Option B)) (us : List (Option A)) (vs : List (Option B)) → Front os us → Front ps vs → Pairwise R us vs → SameSoFar R os ps
  fronts_same [] ps us vs h k e = tt
  fronts_same (o ∷ os) [] us vs h k e = tt
  fronts_same (o ∷ os) (p ∷ ps) [] [] h k e = (subst₂ (Matching R) (sym h.0) (sym k.0) tt, fronts_same os ps [] [] h.1 k.1 tt)
  fronts_same (o ∷ os) (p ∷ ps) [] (v ∷ vs) h k e = (subst₂ (Matching R) (sym h.0) (sym k.0) e.0, fronts_same os ps [] vs h.1 k.1 e.1)
  fronts_same (o ∷ os) (p ∷ ps) (u ∷ us) [] h k e = (subst₂ (Matching R) (sym h.0) (sym k.0) e.0, fronts_same os ps us [] h.1 k.1 e.1)
  fronts_same (o ∷ os) (p ∷ ps) (u ∷ us) (v ∷ vs) h k e = (subst₂ (Matching R) (sym h.0) (sym k.0) e.0, fronts_same os ps us vs h.1 k.1 e.1)

  agree_so_far : (n m : ℕ) (xs : List (Answer A)) (ys : List (Answer B)) → Agree R xs ys → SameSoFar R (settled (firsts n xs)) (settled (firsts m ys))
  agree_so_far n m xs ys e = fronts_same (settled (firsts n xs)) (settled (firsts m ys)) (settled xs) (settled ys) (firsts_front n xs) (firsts_front m ys) e

module _ {A B C : Type 0} (R : A → C → Type 0) (see : B → C) where
  firsts_seen : (n : ℕ) (ys : List (Answer B)) → firsts n (all_seen see ys) ≡ all_seen see (firsts n ys)
  firsts_seen zero ys = refl
  firsts_seen (suc n) [] = ap (λ r. Ready None ∷ r) (firsts_seen n [])
  firsts_seen (suc n) (Pending ∷ ys) = ap (λ r. Pending ∷ r) (firsts_seen n ys)
  firsts_seen (suc n) (Ready None ∷ ys) = ap (λ r. Ready None ∷ r) (firsts_seen n ys)
  firsts_seen (suc n) (Ready (Some y) ∷ ys) = ap (λ r. Ready (Some (see y)) ∷ r) (firsts_seen n ys)

  same_seen : (os : List (Option A)) (ys : List (Answer B)) → SameSoFar R os (settled (all_seen see ys)) → SameSoFar (λ a b. R a (see b)) os (settled ys)
  same_seen [] ys h = tt
  same_seen (o ∷ os) [] h = tt
  same_seen (o ∷ os) (Pending ∷ ys) h = same_seen (o ∷ os) ys h
  same_seen (None ∷ os) (Ready None ∷ ys) h = (tt, same_seen os ys h.1)
  same_seen (Some x ∷ os) (Ready None ∷ ys) h = absurd h.0
  same_seen (None ∷ os) (Ready (Some y) ∷ ys) h = absurd h.0
  same_seen (Some x ∷ os) (Ready (Some y) ∷ ys) h = (h.0, same_seen os ys h.1)

module _ {P Q V A B : Type 0} (one : Streams P A) (two : Streams Q B) (viewer : Callbacks V (Shown A B) Turn) (p : P) (q : Q) (v : V) (start : Turn) where
  gave_both : {so_far : List (Shown A B)} {s : P} {t : Q} {u : V} {turn : Turn} → PollsOfBoth one two viewer p q v start so_far s t u turn → Gave (of_first so_far) (one.answers p) (one.answers s) × Gave (of_second so_far) (two.answers q) (two.answers t)
  gave_both none_yet = ((refl, refl), (refl, refl))
  gave_both (first_polled {so_far = l} {s = s} {s' = s'} {t = t} {r = r} run h) =
      let g = gave_both run in
      let more = first_more l r in (
        subst (λ k. Gave k (one.answers p) (one.answers s')) (sym more.0) (gave_more (of_first l) (one.answers p) (one.answers s) (one.answers s') r g.0 h.answer h.after),
        subst (λ k. Gave k (two.answers q) (two.answers t)) (sym more.1) g.1,
      )
  gave_both (second_polled {so_far = l} {s = s} {t = t} {t' = t'} {r = r} run h) =
      let g = gave_both run in
      let more = second_more l r in (
        subst (λ k. Gave k (one.answers p) (one.answers s)) (sym more.0) g.0,
        subst (λ k. Gave k (two.answers q) (two.answers t')) (sym more.1) (gave_more (of_second l) (two.answers q) (two.answers t) (two.answers t') r g.1 h.answer h.after),
      )

  pub lawful : {so_far : List (Shown A B)} {s : P} {t : Q} {u : V} {turn : Turn} → PollsOfBoth one two viewer p q v start so_far s t u turn → DelayLaw one two viewer p q so_far
  lawful {so_far} run =
      let g = gave_both run in
      let same = one.pipeline.view.same in
      let n = length (of_first so_far) in
      let m = length (of_second so_far) in
      record {
        first_answers = g.0.0;
        second_answers = g.1.0;
        same = λ see h.
            let whole = agree_so_far same n m (one.answers p) (all_seen see (two.answers q)) (one.pipeline.agree p (all_seen see (two.answers q)) h) in
            let seen = same_seen same see (settled (firsts n (one.answers p))) (firsts m (two.answers q)) (subst (λ l. SameSoFar same (settled (firsts n (one.answers p))) (settled l)) (firsts_seen same see m (two.answers q)) whole) in
            subst₂ (λ k l. SameSoFar (λ a b. same a (see b)) (settled k) (settled l)) (sym g.0.0) (sym g.1.0) seen;
      }

  pub viewed : {so_far : List (Shown A B)} {s : P} {t : Q} {u : V} {turn : Turn} → PollsOfBoth one two viewer p q v start so_far s t u turn → u ≡ fold viewer.next v so_far
  viewed none_yet = refl
  viewed (first_polled {so_far = l} {r = r} run h) = ap (λ k. viewer.next k (shown.First r)) (viewed run) ∙ sym (fold-append viewer.next v l (shown.First r ∷ []))
  viewed (second_polled {so_far = l} {r = r} run h) = ap (λ k. viewer.next k (shown.Second r)) (viewed run) ∙ sym (fold-append viewer.next v l (shown.Second r ∷ []))

  -- a run of n polls so far
  abbrev pub RunSoFar : ℕ → P → Q → V → Turn → Type 0
  RunSoFar n s t u turn = (so_far : List (Shown A B)) × (length so_far ≡ n) × PollsOfBoth one two viewer p q v start so_far s t u turn

  longer : (l : List (Shown A B)) (a : Shown A B) (n : ℕ) → length l ≡ n → length (l ++ (a ∷ [])) ≡ n + 1
  longer l a n e = length-append l (a ∷ []) ∙ ap (λ k. k + 1) e

  -- and one more poll of the first pipeline, or of the second
  pub first_turn : (n : ℕ) (s s' : P) (t : Q) (u u' : V) (turn turn' : Turn) (r : Answer A) → RunSoFar n s t u turn → turn ≡ turns.First → Polled one.answers one.pipeline s r s' → u' ≡ viewer.next u (shown.First r) → turn' ≡ viewer.output u (shown.First r) → RunSoFar (n + 1) s' t u' turn'
  first_turn n s s' t u u' turn turn' r run its h next said = (
    run.0 ++ (shown.First r ∷ []),
    longer run.0 (shown.First r) n run.1,
    subst₂ (PollsOfBoth one two viewer p q v start (run.0 ++ (shown.First r ∷ [])) s' t) (sym next) (sym said) (first_polled (subst (PollsOfBoth one two viewer p q v start run.0 s t u) its run.2) h),
  )

  pub second_turn : (n : ℕ) (s : P) (t t' : Q) (u u' : V) (turn turn' : Turn) (r : Answer B) → RunSoFar n s t u turn → turn ≡ turns.Second → Polled two.answers two.pipeline t r t' → u' ≡ viewer.next u (shown.Second r) → turn' ≡ viewer.output u (shown.Second r) → RunSoFar (n + 1) s t' u' turn'
  second_turn n s t t' u u' turn turn' r run its h next said = (
    run.0 ++ (shown.Second r ∷ []),
    longer run.0 (shown.Second r) n run.1,
    subst₂ (PollsOfBoth one two viewer p q v start (run.0 ++ (shown.Second r ∷ [])) s t') (sym next) (sym said) (second_polled (subst (PollsOfBoth one two viewer p q v start run.0 s t u) its run.2) h),
  )

  -- a run is one between all that equals its ends
  pub run_to : (n : ℕ) (s s' : P) (t t' : Q) (u u' : V) (turn turn' : Turn) → s' ≡ s → t' ≡ t → u' ≡ u → turn' ≡ turn → RunSoFar n s t u turn → RunSoFar n s' t' u' turn'
  run_to n s s' t t' u u' turn turn' a b c d run =
      subst (λ k. RunSoFar n s' t' u' k) (sym d) (subst (λ k. RunSoFar n s' t' k turn) (sym c) (subst (λ k. RunSoFar n s' k u turn) (sym b) (subst (λ k. RunSoFar n k t u turn) (sym a) run)))
