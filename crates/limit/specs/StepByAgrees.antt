-- Lemmas that fill a ghost member: from the same step and count, matching items are dropped or kept alike.
use Rattle.std.specs.Prelude.{◌≡◌, ℕ, zero, suc}
use Rattle.std.proofs.Common.{ap, subst}
use Rattle.stream.specs.ItemwiseAgrees.{Making}
use Rattle.limit.specs.StepByRule.{counts_down, kept_at, steps}

module _ {A C : Type 0} (R : A → C → Type 0) where
  same_count : (i : ℕ) (a : A) (c : C) → R a c → Making R (kept_at i a) (kept_at i c)
  same_count zero a c r = r
  same_count (suc i) a c r = tt

  pub step_by_step : (p q : ℕ × ℕ) (a : A) (c : C) → p ≡ q → R a c → Making R (steps p a) (steps q c) × (counts_down p a ≡ counts_down q c)
  step_by_step p q a c e r = (
    subst (λ v. Making R (steps p a) (steps v c)) e (same_count p.1 a c r),
    ap (λ v. counts_down v a) e,
  )
