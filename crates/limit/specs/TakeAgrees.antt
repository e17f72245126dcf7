-- Lemmas that fill a ghost member: lists that agree, up to the same number of items, agree.
use Rattle.std.specs.Prelude.{◌≡◌, ℕ, zero, suc, List, [], ◌∷◌, Some, None, Option, refl}
use Rattle.std.proofs.Common.{ap, sym, subst₂}
use Rattle.stream.specs.declared.poll.Poll.TheVariants.{Ready, Pending}
use Rattle.stream.specs.Answers.{Answer, Agree, Pairwise, settled}
use Rattle.limit.specs.TakeRule.{taken}

-- the rule without waits
abbrev dry : {A : Type 0} → ℕ → List (Option A) → List (Option A)
dry zero xs = []
dry (suc n) [] = []
dry (suc n) (None ∷ xs) = []
dry (suc n) (Some x ∷ xs) = Some x ∷ dry n xs

settled_taken : {A : Type 0} (n : ℕ) (xs : List (Answer A)) → settled (taken n xs) ≡ dry n (settled xs)
settled_taken zero xs = refl
settled_taken (suc n) [] = refl
settled_taken (suc n) (Pending ∷ xs) = settled_taken (suc n) xs
settled_taken (suc n) (Ready None ∷ xs) = refl
settled_taken (suc n) (Ready (Some x) ∷ xs) = ap (λ r. Some x ∷ r) (settled_taken n xs)

module _ {A B : Type 0} (R : A → B → Type 0) where
  dry_agree : (n : ℕ) (xs : List (Option A)) (ys : List (Option B)) → Pairwise R xs ys → Pairwise R (dry n xs) (dry n ys)
  dry_agree zero xs ys h = tt
  dry_agree (suc n) [] [] h = tt
  dry_agree (suc n) [] (None ∷ ys) h = tt
  dry_agree (suc n) [] (Some y ∷ ys) h = absurd h.0
  dry_agree (suc n) (None ∷ xs) [] h = tt
  dry_agree (suc n) (Some x ∷ xs) [] h = absurd h.0
  dry_agree (suc n) (None ∷ xs) (None ∷ ys) h = tt
  dry_agree (suc n) (None ∷ xs) (Some y ∷ ys) h = absurd h.0
  dry_agree (suc n) (Some x ∷ xs) (None ∷ ys) h = absurd h.0
  dry_agree (suc n) (Some x ∷ xs) (Some y ∷ ys) h = (h.0, dry_agree n xs ys h.1)

  pub taken_agree : (n : ℕ) (xs : List (Answer A)) (ys : List (Answer B)) → Agree R xs ys → Agree R (taken n xs) (taken n ys)
  taken_agree n xs ys h = subst₂ (Pairwise R) (sym (settled_taken n xs)) (sym (settled_taken n ys)) (dry_agree n (settled xs) (settled ys) h)
