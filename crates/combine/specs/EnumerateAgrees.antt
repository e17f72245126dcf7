-- A lemma that fills no ghost member, for items that match in any way: lists that agree, enumerated from the same number, agree.
use Rattle.std.specs.Prelude.{◌≡◌, ℕ, List, refl}
use Rattle.std.proofs.Common.{ap}
use Rattle.stream.specs.Answers.{Answer, Agree}
use Rattle.stream.specs.Itemwise.Made.{item}
use Rattle.stream.specs.ItemwiseAgrees.{itemwise_agree}
use Rattle.combine.specs.EnumerateRule.{enumerated, next_number}

module _ {A B : Type 0} (R : A → B → Type 0) where
  -- two numbered items match when their numbers are the same and the items match
  abbrev numbered : ℕ × A → ℕ × B → Type 0
  numbered p q = (p.0 ≡ q.0) × R p.1 q.1

  -- Enumerate's rule goes item by item: the states that match are equal numbers.
  pub enumerated_agree : (i : ℕ) (xs : List (Answer A)) (ys : List (Answer B)) → Agree R xs ys → Agree numbered (enumerated i xs) (enumerated i ys)
  enumerated_agree i xs ys h =
      itemwise_agree R numbered (λ i j. i ≡ j) (λ i x. item (i, x)) (λ i x. next_number i) (λ i x. item (i, x)) (λ i x. next_number i) (λ i j a c same r. ((same, r), ap next_number same)) i i xs ys (enumerated i ys) refl h refl
