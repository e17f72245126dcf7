-- A list up to its first None, by its first answer.
use Rattle.std.proofs.Common.{◌≡◌, List, Some, refl, ap}
use Rattle.stream.specs.declared.poll.Poll.TheVariants.{Ready, Pending}
use Rattle.stream.specs.Answers.{Answer, first, rest}
use Rattle.stream.specs.Nones.{before_none}
use Rattle.stream.proofs.Cases.{at_wait, at_item}

module _ {A : Type 0} (k : List (Answer A)) where
  -- the answer r of a list is passed on
  abbrev PassedOn : Answer A → List (Answer A) → Type 0
  PassedOn r xs = (r ≡ first (before_none xs k)) × (before_none (rest xs) k ≡ rest (before_none xs k))

  pub wait_before_none : (xs : List (Answer A)) → Pending ≡ first xs → PassedOn Pending xs
  wait_before_none xs e = at_wait (PassedOn Pending) xs e (λ ys. (refl, refl))

  pub item_before_none : (x : A) (xs : List (Answer A)) → Ready (Some x) ≡ first xs → PassedOn (Ready (Some x)) xs
  item_before_none x xs e = at_item (PassedOn (Ready (Some x))) x xs e (λ ys y q. (ap (λ z. Ready (Some z)) q, refl))
