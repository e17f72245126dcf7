-- Lemmas that fill a ghost member: from the same number, matching items are dropped or kept alike.
use Rattle.std.specs.Prelude.{◌≡◌, ℕ, zero, suc, refl}
use Rattle.std.proofs.Common.{subst}
use Rattle.stream.specs.ItemwiseAgrees.{Making}
use Rattle.limit.specs.SkipRule.{fewer, skips}

module _ {A C : Type 0} (R : A → C → Type 0) where
  same_number : (n : ℕ) (a : A) (c : C) → R a c → Making R (skips n a) (skips n c) × (fewer n a ≡ fewer n c)
  same_number zero a c r = (r, refl)
  same_number (suc n) a c r = (tt, refl)

  pub skip_step : (n k : ℕ) (a : A) (c : C) → n ≡ k → R a c → Making R (skips n a) (skips k c) × (fewer n a ≡ fewer k c)
  skip_step n k a c e r = subst (λ v. Making R (skips n a) (skips v c) × (fewer n a ≡ fewer v c)) e (same_number n a c r)
