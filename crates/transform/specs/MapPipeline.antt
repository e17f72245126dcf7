-- Map as part of a pipeline.
use Rattle.std.specs.Prelude.{◌≡◌, ℕ, List}
use Rattle.stream.specs.declared.stream.Stream.{Ghosts as Streams}
use Rattle.stream.specs.declared.callback.Callback.{Ghosts as Callbacks}
use Rattle.stream.specs.Answers.{Answer, Agree, waits_in}
use Rattle.stream.specs.Callbacks.{Behaviour, CallbacksAgree, gives, onward}
use Rattle.stream.specs.Itemwise.{called}
use Rattle.stream.specs.Itemwise.Made.{item}
use Rattle.stream.specs.ItemwisePipelines.{callback_pipeline}
use Rattle.stream.specs.Pipelines.{Pipeline, Polled}
use Rattle.transform.specs.declared.map.Map.{Map}
use Rattle.transform.specs.MapRule.{mapped}

module _ {S F A B : Type 0} (below : Streams S A) (callback : Callbacks F A B) where
  -- The answers of a Map: those of its stream, mapped by its callback.
  abbrev pub map_answers : Map S F → List (Answer B)
  map_answers m = mapped callback.output callback.next m.f (below.answers m.stream)

  -- One poll of a Map, from m to n, that took w waits from below: its stream was polled once and answered r, and the callback was called with the item, if r brought one.
  abbrev pub MapTook : Map S F → ℕ → Map S F → Type 0
  MapTook m w n = (r : Answer A) × Polled below.answers below.pipeline m.stream r n.stream × (n.f ≡ called callback.next m.f r) × (w ≡ waits_in r)

  -- As an adapter that goes item by item: its items are seen as the callback's outputs are, and the outputs of two callbacks match as they are seen.
  abbrev pub map_itemwise : Pipeline map_answers
  map_itemwise =
      callback_pipeline below callback callback.outputs (λ m. m.stream) (λ m. m.f) below.pipeline.took (λ o a. item o) callback.outputs.same (λ p c. item p) (λ o p a c same r. same)

  -- A Map is alike to each Map over a stream that its own is alike to, by a callback that agrees with its own.
  abbrev pub map_alike : Map S F → List (Answer callback.outputs.Seen) → Type 0
  map_alike m zs =
      (ys : List (Answer below.pipeline.view.Seen))
      × (h : Behaviour below.pipeline.view.Seen callback.outputs.Seen)
      × below.pipeline.alike m.stream ys
      × CallbacksAgree below.pipeline.view.same callback.outputs.same callback.output callback.next gives onward m.f h
      × (zs ≡ mapped gives onward h ys)

  pub map_agree : (m : Map S F) (zs : List (Answer callback.outputs.Seen)) → map_alike m zs → Agree callback.outputs.same (map_answers m) zs
  map_agree = map_itemwise.agree

  -- What a poll takes says what the callback holds afterwards as well, for the adapters that are built on Map.
  abbrev pub map_pipeline : Pipeline map_answers
  map_pipeline = record {
    view = callback.outputs;
    took = MapTook;
    alike = map_alike;
    agree = map_agree;
  }
