-- Flatten as part of a pipeline.
use Rattle.std.specs.Prelude.{ℕ, List}
use Rattle.stream.specs.declared.stream.Stream.{Ghosts as Streams}
use Rattle.stream.specs.Answers.{Answer}
use Rattle.stream.specs.Pipelines.{Pipeline}
use Rattle.nest.specs.declared.flatten.Flatten.{Flatten}
use Rattle.nest.specs.Nested.{NestedTook, nested_answers, nested_pipeline}

module _ {S U A : Type 0} (outer : Streams S U) (inner : Streams U A) where
  -- The answers of a Flatten: those of the inner stream that it holds, if any, and then those of its stream's, flattened.
  abbrev pub flatten_answers : Flatten S U → List (Answer A)
  flatten_answers m = nested_answers outer inner m.stream m.inner_stream

  -- One poll of a Flatten, from m to n, that took w waits from below.
  abbrev pub FlattenTook : Flatten S U → ℕ → Flatten S U → Type 0
  FlattenTook m w n = NestedTook outer inner m.stream m.inner_stream w n.stream n.inner_stream

  -- A Flatten is alike to each over a stream that its own is alike to, whose inner streams agree with its own.
  abbrev pub flatten_pipeline : Pipeline flatten_answers
  flatten_pipeline = nested_pipeline outer inner (λ m. m.stream) (λ m. m.inner_stream)
