-- OnceFuture's rule.
use Rattle.std.specs.Prelude.{ℕ, List, [], Some, None, Option}
use Rattle.stream.specs.Answers.{Answer}
use Rattle.stream.specs.Futures.{waited}

-- The waits of the future that is held, and then its output as one item.
abbrev pub once_waited : {U B : Type 0} → (U → ℕ) → (U → B) → Option U → List (Answer B)
once_waited waits output None = []
once_waited waits output (Some u) = waited (waits u) (output u) []
