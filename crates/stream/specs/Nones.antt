-- Lists up to their first None.
use Rattle.std.specs.Prelude.{List, [], ◌∷◌, Some, None}
use Rattle.stream.specs.declared.poll.Poll.TheVariants.{Ready, Pending}
use Rattle.stream.specs.Answers.{Answer}

-- The answers of a list before its first None, and then those that follow.
abbrev pub before_none : {A : Type 0} → List (Answer A) → List (Answer A) → List (Answer A)
before_none [] following = following
before_none (Pending ∷ xs) following = Pending ∷ before_none xs following
before_none (Ready None ∷ xs) following = following
before_none (Ready (Some x) ∷ xs) following = Ready (Some x) ∷ before_none xs following
