-- MapWhile as part of a pipeline.
use Rattle.std.specs.Prelude.{List, Option}
use Rattle.stream.specs.declared.stream.Stream.{Ghosts as Streams}
use Rattle.stream.specs.declared.callback.Callback.{Ghosts as Callbacks}
use Rattle.stream.specs.Answers.{Answer, Matching}
use Rattle.stream.specs.Itemwise.{held_or_none}
use Rattle.stream.specs.ItemwiseAgrees.{held_or_none_agree}
use Rattle.stream.specs.ItemwisePipelines.{callback_pipeline}
use Rattle.stream.specs.Pipelines.{Pipeline}
use Rattle.stream.specs.Views.{View, insides}
use Rattle.transform.specs.declared.map_while.MapWhile.{MapWhile}
use Rattle.transform.specs.MapWhileRule.{mapped_while}

module _ {S F A B : Type 0} (below : Streams S A) (callback : Callbacks F A (Option B)) where
  -- The answers of a MapWhile: those of its stream, by its callback.
  abbrev pub map_while_answers : MapWhile S F → List (Answer B)
  map_while_answers m = mapped_while callback.output callback.next m.predicate (below.answers m.stream)

  -- Its items are seen as what the callback's outputs hold.
  abbrev pub map_while_view : View B
  map_while_view = insides callback.outputs

  -- The outputs of two callbacks match part by part; a poll takes what one poll of its stream takes.
  abbrev pub map_while_pipeline : Pipeline map_while_answers
  map_while_pipeline =
      callback_pipeline below callback map_while_view (λ m. m.stream) (λ m. m.predicate) below.pipeline.took (λ o a. held_or_none o) (Matching map_while_view.same) (λ p c. held_or_none p) (λ o p a c same r. held_or_none_agree map_while_view.same o p same)
