-- TakeWhile as part of a pipeline.
use Rattle.std.specs.Prelude.{◌≡◌, Bool, List}
use Rattle.stream.specs.declared.stream.Stream.{Ghosts as Streams}
use Rattle.stream.specs.declared.callback.Callback.{Ghosts as Callbacks}
use Rattle.stream.specs.Answers.{Answer}
use Rattle.stream.specs.Itemwise.{item_or_none}
use Rattle.stream.specs.ItemwiseAgrees.{item_or_none_agree}
use Rattle.stream.specs.ItemwisePipelines.{callback_pipeline}
use Rattle.stream.specs.Pipelines.{Pipeline}
use Rattle.transform.specs.declared.take_while.TakeWhile.{TakeWhile}
use Rattle.transform.specs.TakeWhileRule.{taken_while}

module _ {S F A : Type 0} (below : Streams S A) (callback : Callbacks F A Bool) where
  -- The answers of a TakeWhile: those of its stream, by its callback.
  abbrev pub take_while_answers : TakeWhile S F → List (Answer A)
  take_while_answers m = taken_while callback.output callback.next m.predicate (below.answers m.stream)

  -- Its items are seen as its stream's are, and the answers of two callbacks are the same; a poll takes what one poll of its stream takes.
  abbrev pub take_while_pipeline : Pipeline take_while_answers
  take_while_pipeline =
      callback_pipeline below callback below.pipeline.view (λ m. m.stream) (λ m. m.predicate) below.pipeline.took item_or_none (λ b c. b ≡ c) item_or_none (item_or_none_agree below.pipeline.view.same)
