-- FlatMap as part of a pipeline: it is Flatten over Map.
use Rattle.std.specs.Prelude.{ℕ, List}
use Rattle.stream.specs.declared.callback.Callback.{Ghosts as Callbacks}
use Rattle.stream.specs.declared.stream.Stream.{Ghosts as Streams}
use Rattle.stream.specs.Answers.{Answer}
use Rattle.stream.specs.Pipelines.{Pipeline}
use Rattle.transform.specs.declared.map.Map.{Map}
use Rattle.transform.specs.MapPipeline.{map_answers, map_pipeline}
use Rattle.nest.specs.declared.flat_map.FlatMap.{FlatMap}
use Rattle.nest.specs.Nested.{NestedTook, nested_answers, nested_pipeline}

module _ {S F A U B : Type 0} (below : Streams S A) (callback : Callbacks F A U) (inner : Streams U B) where
  -- The inner streams come from the stream by the callback, as Map has it.
  abbrev pub map_streams : Streams (Map S F) U
  map_streams = record { answers = map_answers below callback; pipeline = map_pipeline below callback }

  -- The answers of a FlatMap: those of the inner stream that it holds, if any, and then those of the Map's, flattened.
  abbrev pub flat_map_answers : FlatMap S U F → List (Answer B)
  flat_map_answers m = nested_answers map_streams inner m.stream m.inner_stream

  -- One poll of a FlatMap, from m to n, that took w waits from below. Each poll of the Map in it says what its stream and its callback became.
  abbrev pub FlatMapTook : FlatMap S U F → ℕ → FlatMap S U F → Type 0
  FlatMapTook m w n = NestedTook map_streams inner m.stream m.inner_stream w n.stream n.inner_stream

  -- A FlatMap is alike to each Flatten over a Map that its own is alike to, whose inner streams agree with its own.
  abbrev pub flat_map_pipeline : Pipeline flat_map_answers
  flat_map_pipeline = nested_pipeline map_streams inner (λ m. m.stream) (λ m. m.inner_stream)
