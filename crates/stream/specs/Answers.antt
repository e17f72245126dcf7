-- Answers, and the lists of them that streams mean.
use Rattle.std.specs.Prelude.{ℕ, Bool, true, false, List, [], ◌∷◌, Some, None, Option}
use Rattle.stream.specs.declared.poll.Poll.{Poll}
use Rattle.stream.specs.declared.poll.Poll.TheVariants.{Ready, Pending}

-- Whether an answer is no wait.
abbrev pub ready : {A : Type 0} → Poll A → Bool
ready (Ready a) = true
ready Pending = false

-- What a poll of a stream answers: a wait (Pending), an item (Ready (Some x)) or None (Ready None).
abbrev pub Answer : Type 0 → Type 0
Answer A = Poll (Option A)

-- The answer to the next poll: at its end a list goes on in None for ever.
abbrev pub first : {A : Type 0} → List (Answer A) → Answer A
first [] = Ready None
first (a ∷ xs) = a

-- The answers that are left after the next poll.
abbrev pub rest : {A : Type 0} → List (Answer A) → List (Answer A)
rest [] = []
rest (a ∷ xs) = xs

-- How many waits an answer is, of a stream or of a future.
abbrev pub waits_in : {A : Type 0} → Poll A → ℕ
waits_in Pending = 1
waits_in (Ready a) = 0

-- An answer that brings no item: a wait or None.
abbrev pub NoItem : {A : Type 0} → Answer A → Type 0
NoItem Pending = Unit {0}
NoItem (Ready None) = Unit {0}
NoItem (Ready (Some x)) = ⊥

-- The settled answers of a list: its items and Nones in order, with the waits removed.
abbrev pub settled : {A : Type 0} → List (Answer A) → List (Option A)
settled [] = []
settled (Pending ∷ xs) = settled xs
settled (Ready o ∷ xs) = o ∷ settled xs

-- Two options match when both are None, or both hold something and R relates the two.
abbrev pub Matching : {A B : Type 0} → (A → B → Type 0) → Option A → Option B → Type 0
Matching R None None = Unit {0}
Matching R None (Some b) = ⊥
Matching R (Some a) None = ⊥
Matching R (Some a) (Some b) = R a b

-- Two lists match place by place; the shorter goes on in None, so that Nones at an end make no difference.
abbrev pub Pairwise : {A B : Type 0} → (A → B → Type 0) → List (Option A) → List (Option B) → Type 0
Pairwise R [] [] = Unit {0}
Pairwise R [] (y ∷ ys) = Matching R None y × Pairwise R [] ys
Pairwise R (x ∷ xs) [] = Matching R x None × Pairwise R xs []
Pairwise R (x ∷ xs) (y ∷ ys) = Matching R x y × Pairwise R xs ys

-- Two lists of answers agree when they match with waits removed.
abbrev pub Agree : {A B : Type 0} → (A → B → Type 0) → List (Answer A) → List (Answer B) → Type 0
Agree R xs ys = Pairwise R (settled xs) (settled ys)
