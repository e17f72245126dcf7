-- FilterMap as part of a pipeline.
use Rattle.std.specs.Prelude.{List, Option}
use Rattle.stream.specs.declared.stream.Stream.{Ghosts as Streams}
use Rattle.stream.specs.declared.callback.Callback.{Ghosts as Callbacks}
use Rattle.stream.specs.Answers.{Answer, Matching}
use Rattle.stream.specs.Itemwise.{held_item}
use Rattle.stream.specs.ItemwiseAgrees.{held_item_agree}
use Rattle.stream.specs.ItemwisePipelines.{callback_pipeline}
use Rattle.stream.specs.Pipelines.{Pipeline}
use Rattle.stream.specs.Runs.{TookByPolls}
use Rattle.stream.specs.Views.{View, insides}
use Rattle.select.specs.declared.filter_map.FilterMap.{FilterMap}
use Rattle.select.specs.FilterMapRule.{filter_mapped}

module _ {S F A B : Type 0} (below : Streams S A) (callback : Callbacks F A (Option B)) where
  -- The answers of a FilterMap: those of its stream, by its callback.
  abbrev pub filter_map_answers : FilterMap S F → List (Answer B)
  filter_map_answers m = filter_mapped callback.output callback.next m.f (below.answers m.stream)

  -- Its items are seen as what the callback's outputs hold.
  abbrev pub filter_map_view : View B
  filter_map_view = insides callback.outputs

  -- The outputs of two callbacks match part by part; a poll takes what its polls of its stream take.
  abbrev pub filter_map_pipeline : Pipeline filter_map_answers
  filter_map_pipeline =
      callback_pipeline below callback filter_map_view (λ m. m.stream) (λ m. m.f) (TookByPolls below.answers below.pipeline) (λ o a. held_item o) (Matching filter_map_view.same) (λ p c. held_item p) (λ o p a c same r. held_item_agree filter_map_view.same o p same)
