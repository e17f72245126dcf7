-- FirstFuture's rule.
use Rattle.std.specs.Prelude.{ℕ, suc, List, [], ◌∷◌, None, Option}
use Rattle.stream.specs.declared.poll.Poll.TheVariants.{Ready, Pending}
use Rattle.stream.specs.Answers.{Answer}

-- How many waits a list has before its first settled answer.
abbrev pub first_waits : {A : Type 0} → List (Answer A) → ℕ
first_waits [] = 0
first_waits (Pending ∷ xs) = suc (first_waits xs)
first_waits (Ready o ∷ xs) = 0

-- The first settled answer of a list: the first that is no wait.
abbrev pub first_settled : {A : Type 0} → List (Answer A) → Option A
first_settled [] = None
first_settled (Pending ∷ xs) = first_settled xs
first_settled (Ready o ∷ xs) = o

-- The waits still to come, by what was answered last and the list that is left: after a wait those of the list, and after any other answer none.
abbrev pub waits_from : {A : Type 0} → Answer A → List (Answer A) → ℕ
waits_from Pending xs = first_waits xs
waits_from (Ready o) xs = 0

-- The first settled answer, by the same: after a wait that of the list, and else the one that was answered last.
abbrev pub settled_from : {A : Type 0} → Answer A → List (Answer A) → Option A
settled_from Pending xs = first_settled xs
settled_from (Ready o) xs = o
