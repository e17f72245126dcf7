-- Enumerate's rule.
use Rattle.std.specs.Prelude.{ℕ, ◌+◌, ◌%◌, ◌^◌, List}
use Rattle.stream.specs.Answers.{Answer}
use Rattle.stream.specs.Itemwise.{itemwise}
use Rattle.stream.specs.Itemwise.Made.{item}

-- The number after i: one more, modulo 2^64.
abbrev pub next_number : ℕ → ℕ
next_number i = (i + 1) % 2 ^ 64

-- Each item is paired with its number: the first with i, and each later one with the number after that of the item before it. Waits and Nones pass in their places.
abbrev pub enumerated : {A : Type 0} → ℕ → List (Answer A) → List (Answer (ℕ × A))
enumerated = itemwise (λ i x. item (i, x)) (λ i x. next_number i)
