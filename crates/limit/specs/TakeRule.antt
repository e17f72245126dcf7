-- Take's rule.
use Rattle.std.specs.Prelude.{ℕ, zero, suc, ◌-◌, List, [], ◌∷◌, Some, None}
use Rattle.stream.specs.declared.poll.Poll.TheVariants.{Ready, Pending}
use Rattle.stream.specs.Answers.{Answer}

-- The list ends after its nth item, or at its first None before that.
abbrev pub taken : {A : Type 0} → ℕ → List (Answer A) → List (Answer A)
taken zero xs = []
taken (suc n) [] = []
taken (suc n) (Pending ∷ xs) = Pending ∷ taken (suc n) xs
taken (suc n) (Ready None ∷ xs) = []
taken (suc n) (Ready (Some x) ∷ xs) = Ready (Some x) ∷ taken n xs

-- How many items may still be passed on after an answer: one less after an item, and none after None.
abbrev pub left_by : {A : Type 0} → ℕ → Answer A → ℕ
left_by n Pending = n
left_by n (Ready None) = 0
left_by n (Ready (Some x)) = n - 1
