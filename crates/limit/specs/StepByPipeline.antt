-- StepBy as part of a pipeline.
use Rattle.std.specs.Prelude.{◌≡◌, List}
use Rattle.stream.specs.declared.stream.Stream.{Ghosts as Streams}
use Rattle.stream.specs.Answers.{Answer}
use Rattle.stream.specs.ItemwisePipelines.{itemwise_pipeline}
use Rattle.stream.specs.Pipelines.{Pipeline}
use Rattle.stream.specs.Runs.{TookByPolls}
use Rattle.limit.specs.declared.step_by.StepBy.{StepBy}
use Rattle.limit.specs.StepByRule.{counts_down, stepped, steps}
use Rattle.limit.specs.StepByAgrees.{step_by_step}

module _ {S A : Type 0} (below : Streams S A) where
  -- The answers of a StepBy: those of its stream, by its step, from the number of items that are dropped before the next that is kept.
  abbrev pub step_by_answers : StepBy S → List (Answer A)
  step_by_answers m = stepped m.step m.i (below.answers m.stream)

  -- Its items are seen as its stream's are, and the steps and numbers of two match when they are the same; a poll takes what its polls of its stream take.
  abbrev pub step_by_pipeline : Pipeline step_by_answers
  step_by_pipeline =
      itemwise_pipeline below below.pipeline.view (λ m. m.stream) (λ m. (m.step, m.i)) (TookByPolls below.answers below.pipeline) steps counts_down (λ p q. p ≡ q) steps counts_down (step_by_step below.pipeline.view.same)
