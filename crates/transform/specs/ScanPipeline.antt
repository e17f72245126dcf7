-- Scan as part of a pipeline.
use Rattle.std.specs.Prelude.{List, Option}
use Rattle.stream.specs.declared.stream.Stream.{Ghosts as Streams}
use Rattle.stream.specs.declared.callback.Callback.{Ghosts as Callbacks}
use Rattle.stream.specs.Answers.{Answer, Matching}
use Rattle.stream.specs.Itemwise.{held_or_none}
use Rattle.stream.specs.ItemwiseAgrees.{held_or_none_agree}
use Rattle.stream.specs.ItemwisePipelines.{callback_pipeline}
use Rattle.stream.specs.Pipelines.{Pipeline}
use Rattle.stream.specs.Views.{View, insides}
use Rattle.transform.specs.declared.scan.Scan.{Scan}
use Rattle.transform.specs.MapWhileRule.{mapped_while}

module _ {S F A B : Type 0} (below : Streams S A) (callback : Callbacks F A (Option B)) where
  -- The answers of a Scan: those of its stream, by its callback.
  abbrev pub scan_answers : Scan S F → List (Answer B)
  scan_answers m = mapped_while callback.output callback.next m.f (below.answers m.stream)

  -- Its items are seen as what the callback's outputs hold.
  abbrev pub scan_view : View B
  scan_view = insides callback.outputs

  -- The outputs of two callbacks match part by part; a poll takes what one poll of its stream takes.
  abbrev pub scan_pipeline : Pipeline scan_answers
  scan_pipeline =
      callback_pipeline below callback scan_view (λ m. m.stream) (λ m. m.f) below.pipeline.took (λ o a. held_or_none o) (Matching scan_view.same) (λ p c. held_or_none p) (λ o p a c same r. held_or_none_agree scan_view.same o p same)
