-- Zip's rule.
use Rattle.std.specs.Prelude.{List, [], ◌∷◌, Some, None, Option}
use Rattle.stream.specs.declared.poll.Poll.TheVariants.{Ready, Pending}
use Rattle.stream.specs.Answers.{Answer}

-- While a first item x is kept: the waits of the second stream, and then its first answer that is no wait. An item of it is paired with x, and with None x is dropped. What follows is k of the answers that the second stream has left.
abbrev pub kept : {A B : Type 0} → A → (List (Answer B) → List (Answer (A × B))) → List (Answer B) → List (Answer (A × B))
kept x k [] = Ready None ∷ k []
kept x k (Pending ∷ ys) = Pending ∷ kept x k ys
kept x k (Ready None ∷ ys) = Ready None ∷ k ys
kept x k (Ready (Some y) ∷ ys) = Ready (Some (x, y)) ∷ k ys

-- While no item is kept: waits and Nones of the first stream pass in their places, and an item of it is kept.
abbrev pub zipped : {A B : Type 0} → List (Answer A) → List (Answer B) → List (Answer (A × B))
zipped [] ys = []
zipped (Pending ∷ xs) ys = Pending ∷ zipped xs ys
zipped (Ready None ∷ xs) ys = Ready None ∷ zipped xs ys
zipped (Ready (Some x) ∷ xs) ys = kept x (zipped xs) ys

-- Both, by what is kept at the start.
abbrev pub zipped_from : {A B : Type 0} → Option A → List (Answer A) → List (Answer B) → List (Answer (A × B))
zipped_from None xs ys = zipped xs ys
zipped_from (Some x) xs ys = kept x (zipped xs) ys

-- What is kept of a first item x after an answer of the second stream: x at a wait, and else nothing.
abbrev pub kept_after : {A B : Type 0} → A → Answer B → Option A
kept_after x Pending = Some x
kept_after x (Ready o) = None
