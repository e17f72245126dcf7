-- Filter as part of a pipeline.
use Rattle.std.specs.Prelude.{◌≡◌, Bool, List}
use Rattle.stream.specs.declared.stream.Stream.{Ghosts as Streams}
use Rattle.stream.specs.declared.callback.Callback.{Ghosts as Callbacks}
use Rattle.stream.specs.Answers.{Answer}
use Rattle.stream.specs.Itemwise.{item_if}
use Rattle.stream.specs.ItemwiseAgrees.{item_if_agree}
use Rattle.stream.specs.ItemwisePipelines.{callback_pipeline}
use Rattle.stream.specs.Pipelines.{Pipeline}
use Rattle.stream.specs.Runs.{TookByPolls}
use Rattle.select.specs.declared.filter.Filter.{Filter}
use Rattle.select.specs.FilterRule.{filtered}

module _ {S F A : Type 0} (below : Streams S A) (callback : Callbacks F A Bool) where
  -- The answers of a Filter: those of its stream, filtered by its callback.
  abbrev pub filter_answers : Filter S F → List (Answer A)
  filter_answers m = filtered callback.output callback.next m.predicate (below.answers m.stream)

  -- Its items are seen as its stream's are, and the answers of two callbacks are the same; a poll takes what its polls of its stream take.
  abbrev pub filter_pipeline : Pipeline filter_answers
  filter_pipeline =
      callback_pipeline below callback below.pipeline.view (λ m. m.stream) (λ m. m.predicate) (TookByPolls below.answers below.pipeline) item_if (λ b c. b ≡ c) item_if (item_if_agree below.pipeline.view.same)
