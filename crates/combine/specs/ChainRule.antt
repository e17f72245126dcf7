-- Chain's rule.
use Rattle.std.specs.Prelude.{List}
use Rattle.stream.specs.Answers.{Answer}
use Rattle.stream.specs.Nones.{before_none}
use Rattle.limit.specs.FuseRule.{fused}

-- The first list's answers before its first None, and then the second's before its first None.
abbrev pub chained : {A : Type 0} → List (Answer A) → List (Answer A) → List (Answer A)
chained xs ys = before_none xs (fused ys)
