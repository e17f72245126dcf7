-- Iter as a source.
use Rattle.std.specs.Prelude.{List, drop}
use Rattle.stream.specs.Answers.{Answer}
use Rattle.stream.specs.Pipelines.{Pipeline, source}
use Rattle.stream.specs.Views.{plain}
use Rattle.source.specs.declared.iter.Iter.{Iter}
use Rattle.source.specs.IterRule.{row_answers}

-- The answers of an Iter: the items of its row from its place on.
abbrev pub iter_answers : {A : Type 0} → Iter A → List (Answer A)
iter_answers i = row_answers (drop i.at i.row.now)

-- It is the source of a pipeline, and its items are seen as they are.
abbrev pub iter_pipeline : {A : Type 0} → Pipeline (iter_answers {A = A})
iter_pipeline = source iter_answers plain
