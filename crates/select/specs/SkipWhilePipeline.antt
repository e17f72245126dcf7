-- SkipWhile as part of a pipeline.
use Rattle.std.specs.Prelude.{Bool, List}
use Rattle.stream.specs.declared.stream.Stream.{Ghosts as Streams}
use Rattle.stream.specs.declared.callback.Callback.{Ghosts as Callbacks}
use Rattle.stream.specs.Answers.{Answer, Matching}
use Rattle.stream.specs.Callbacks.{Behaviour, gives, onward}
use Rattle.stream.specs.ItemwisePipelines.{itemwise_pipeline}
use Rattle.stream.specs.Pipelines.{Pipeline}
use Rattle.stream.specs.Runs.{TookByPolls}
use Rattle.select.specs.declared.skip_while.SkipWhile.{SkipWhile}
use Rattle.select.specs.SkipWhileRule.{let_go, skipped_while, skips_while}
use Rattle.select.specs.SkipWhileAgrees.{Agreeing, skip_while_step}

module _ {S F A : Type 0} (below : Streams S A) (callback : Callbacks F A Bool) where
  -- The answers of a SkipWhile: those of its stream, by its callback if it is still there.
  abbrev pub skip_while_answers : SkipWhile S F → List (Answer A)
  skip_while_answers m = skipped_while callback.output callback.next m.predicate (below.answers m.stream)

  -- The behaviours of a second pipeline, which answers yes or no to an item as it is seen.
  abbrev Second : Type 0
  Second = Behaviour below.pipeline.view.Seen Bool

  -- Its items are seen as its stream's are. Of two pipelines, both callbacks are still there and agree, or both are gone; a poll takes what its polls of its stream take.
  abbrev pub skip_while_pipeline : Pipeline skip_while_answers
  skip_while_pipeline =
      itemwise_pipeline below below.pipeline.view (λ m. m.stream) (λ m. m.predicate) (TookByPolls below.answers below.pipeline) (skips_while callback.output) (let_go callback.output callback.next)
      (Matching (Agreeing {G = Second} below.pipeline.view.same callback.output callback.next gives onward)) (skips_while gives) (let_go gives onward)
      (skip_while_step below.pipeline.view.same callback.output callback.next gives onward)
