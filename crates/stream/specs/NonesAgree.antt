-- Lemmas that fill ghost members: lists that agree, up to their first None, agree.
use Rattle.std.specs.Prelude.{◌≡◌, List, [], ◌∷◌, Some, None, Option, refl}
use Rattle.std.proofs.Common.{ap, sym, subst₂}
use Rattle.stream.specs.declared.poll.Poll.TheVariants.{Ready, Pending}
use Rattle.stream.specs.Answers.{Answer, Agree, Pairwise, settled}
use Rattle.stream.specs.Nones.{before_none}

-- the rule without waits
abbrev pub dry_before_none : {A : Type 0} → List (Option A) → List (Option A) → List (Option A)
dry_before_none [] k = k
dry_before_none (None ∷ xs) k = k
dry_before_none (Some x ∷ xs) k = Some x ∷ dry_before_none xs k

pub settled_before_none : {A : Type 0} (xs k : List (Answer A)) → settled (before_none xs k) ≡ dry_before_none (settled xs) (settled k)
settled_before_none [] k = refl
settled_before_none (Pending ∷ xs) k = settled_before_none xs k
settled_before_none (Ready None ∷ xs) k = refl
settled_before_none (Ready (Some x) ∷ xs) k = ap (λ r. Some x ∷ r) (settled_before_none xs k)

module _ {A B : Type 0} (R : A → B → Type 0) where
  pub dry_before_none_agree : (xs : List (Option A)) (ys : List (Option B)) (k : List (Option A)) (l : List (Option B)) → Pairwise R xs ys → Pairwise R k l → Pairwise R (dry_before_none xs k) (dry_before_none ys l)
  dry_before_none_agree [] [] k l e h = h
  dry_before_none_agree [] (None ∷ ys) k l e h = h
  dry_before_none_agree [] (Some y ∷ ys) k l e h = absurd e.0
  dry_before_none_agree (None ∷ xs) [] k l e h = h
  dry_before_none_agree (Some x ∷ xs) [] k l e h = absurd e.0
  dry_before_none_agree (None ∷ xs) (None ∷ ys) k l e h = h
  dry_before_none_agree (None ∷ xs) (Some y ∷ ys) k l e h = absurd e.0
  dry_before_none_agree (Some x ∷ xs) (None ∷ ys) k l e h = absurd e.0
  dry_before_none_agree (Some x ∷ xs) (Some y ∷ ys) k l e h = (e.0, dry_before_none_agree xs ys k l e.1 h)

  pub before_none_agree : (xs : List (Answer A)) (ys : List (Answer B)) (k : List (Answer A)) (l : List (Answer B)) → Agree R xs ys → Agree R k l → Agree R (before_none xs k) (before_none ys l)
  before_none_agree xs ys k l e h =
      subst₂ (Pairwise R) (sym (settled_before_none xs k)) (sym (settled_before_none ys l)) (dry_before_none_agree (settled xs) (settled ys) (settled k) (settled l) e h)
