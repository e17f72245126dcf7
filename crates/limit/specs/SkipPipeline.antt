-- Skip as part of a pipeline.
use Rattle.std.specs.Prelude.{◌≡◌, List}
use Rattle.stream.specs.declared.stream.Stream.{Ghosts as Streams}
use Rattle.stream.specs.Answers.{Answer}
use Rattle.stream.specs.ItemwisePipelines.{itemwise_pipeline}
use Rattle.stream.specs.Pipelines.{Pipeline}
use Rattle.stream.specs.Runs.{TookByPolls}
use Rattle.limit.specs.declared.skip.Skip.{Skip}
use Rattle.limit.specs.SkipRule.{fewer, skipped, skips}
use Rattle.limit.specs.SkipAgrees.{skip_step}

module _ {S A : Type 0} (below : Streams S A) where
  -- The answers of a Skip: those of its stream, without as many items as it has still to drop.
  abbrev pub skip_answers : Skip S → List (Answer A)
  skip_answers m = skipped m.n (below.answers m.stream)

  -- Its items are seen as its stream's are, and two numbers match when they are the same; a poll takes what its polls of its stream take.
  abbrev pub skip_pipeline : Pipeline skip_answers
  skip_pipeline =
      itemwise_pipeline below below.pipeline.view (λ m. m.stream) (λ m. m.n) (TookByPolls below.answers below.pipeline) skips fewer (λ n k. n ≡ k) skips fewer (skip_step below.pipeline.view.same)
