-- Once's rule.
use Rattle.std.specs.Prelude.{List, [], ◌∷◌, Some, None, Option}
use Rattle.stream.specs.declared.poll.Poll.TheVariants.{Ready}
use Rattle.stream.specs.Answers.{Answer}

-- What is held comes as one item.
abbrev pub once : {A : Type 0} → Option A → List (Answer A)
once None = []
once (Some x) = Ready (Some x) ∷ []
