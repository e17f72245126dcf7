-- StepBy's rule.
use Rattle.std.specs.Prelude.{ℕ, zero, suc, ◌-◌, List}
use Rattle.stream.specs.Answers.{Answer}
use Rattle.stream.specs.Itemwise.{Made, itemwise}
use Rattle.stream.specs.Itemwise.Made.{item, dropped}

-- An item is kept where none is still to be dropped before it.
abbrev pub kept_at : {A : Type 0} → ℕ → A → Made A
kept_at zero x = item x
kept_at (suc i) x = dropped

-- How many items are dropped after it before the next that is kept: one less, and after a kept item one less than the step.
abbrev pub counted_down : ℕ → ℕ → ℕ
counted_down step zero = step - 1
counted_down step (suc i) = i

-- The state is the step and that number.
abbrev pub steps : {A : Type 0} → ℕ × ℕ → A → Made A
steps p x = kept_at p.1 x

-- The step stays as it is.
abbrev pub counts_down : {A : Type 0} → ℕ × ℕ → A → ℕ × ℕ
counts_down p x = (p.0, counted_down p.0 p.1)

-- A list without its first i items, and of the rest the items 0, step, 2·step and so on. Nones are not counted.
abbrev pub stepped : {A : Type 0} → ℕ → ℕ → List (Answer A) → List (Answer A)
stepped step i = itemwise steps counts_down (step, i)
