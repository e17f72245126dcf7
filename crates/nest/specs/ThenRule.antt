-- Then's rule.
use Rattle.std.specs.Prelude.{ℕ, List, [], ◌∷◌, Some, None, Option}
use Rattle.stream.specs.declared.poll.Poll.{Poll}
use Rattle.stream.specs.declared.poll.Poll.TheVariants.{Ready, Pending}
use Rattle.stream.specs.Answers.{Answer}
use Rattle.stream.specs.Futures.{waited}

-- Waits and Nones pass in their places. Each item becomes the waits and the output of the future that the callback makes of it.
abbrev pub thened : {F A U B : Type 0} → (F → A → U) → (F → A → F) → (U → ℕ) → (U → B) → F → List (Answer A) → List (Answer B)
thened out next waits output f [] = []
thened out next waits output f (Pending ∷ xs) = Pending ∷ thened out next waits output f xs
thened out next waits output f (Ready None ∷ xs) = Ready None ∷ thened out next waits output f xs
thened out next waits output f (Ready (Some x) ∷ xs) =
    waited (waits (out f x)) (output (out f x)) (thened out next waits output (next f x) xs)

-- The waits and the output of the future that is held, if any, and then the answers that follow.
abbrev pub future_first : {U B : Type 0} → (U → ℕ) → (U → B) → Option U → List (Answer B) → List (Answer B)
future_first waits output None following = following
future_first waits output (Some u) following = waited (waits u) (output u) following

-- What is held of a future that a poll left as u: u itself at a wait, and else nothing.
abbrev pub held_after : {U B : Type 0} → U → Poll B → Option U
held_after u Pending = Some u
held_after u (Ready b) = None
