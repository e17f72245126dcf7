-- Once as a source.
use Rattle.std.specs.Prelude.{List}
use Rattle.stream.specs.Answers.{Answer}
use Rattle.stream.specs.Pipelines.{Pipeline, source}
use Rattle.stream.specs.Views.{plain}
use Rattle.source.specs.declared.once.Once.{Once}
use Rattle.source.specs.OnceRule.{once}

-- The answers of a Once: the item that it holds, if any.
abbrev pub once_answers : {A : Type 0} → Once A → List (Answer A)
once_answers o = once o.value

-- It is the source of a pipeline, and its item is seen as it is.
abbrev pub once_pipeline : {A : Type 0} → Pipeline (once_answers {A = A})
once_pipeline = source once_answers plain
