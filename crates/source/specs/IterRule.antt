-- Iter's rule.
use Rattle.std.specs.Prelude.{ℕ, ◌+◌, cond, List, [], ◌∷◌, Some, nat_lt}
use Rattle.stream.specs.declared.poll.Poll.TheVariants.{Ready}
use Rattle.stream.specs.Answers.{Answer}

-- Each value of a row is an item, in order.
abbrev pub row_answers : {A : Type 0} → List A → List (Answer A)
row_answers [] = []
row_answers (x ∷ xs) = Ready (Some x) ∷ row_answers xs

-- The place after a poll, in a row of so many items: the next one, and at the end or past it the same.
abbrev pub next_place : ℕ → ℕ → ℕ
next_place len at = cond (nat_lt at len) (at + 1) at
