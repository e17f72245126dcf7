-- Adapters that go item by item, as parts of a pipeline.
use Rattle.std.specs.Prelude.{◌≡◌, ℕ, suc, List}
use Rattle.stream.specs.declared.stream.Stream.{Ghosts as Streams}
use Rattle.stream.specs.declared.callback.Callback.{Ghosts as Callbacks}
use Rattle.stream.specs.Answers.{Answer, Agree}
use Rattle.stream.specs.Callbacks.{Behaviour, CallbacksAgree, gives, onward}
use Rattle.stream.specs.Itemwise.{Made, itemwise}
use Rattle.stream.specs.ItemwiseAgrees.{Making, itemwise_agree}
use Rattle.stream.specs.Pipelines.{Pipeline}
use Rattle.stream.specs.Views.{View}

-- An adapter M over a stream S, of whose items it makes others by a state. `Held` says when the state of a second pipeline, for which items are as they are seen, matches; `step` shows that matching states make matching items and stay matched.
module _ {M S F A B H : Type 0} (below : Streams S A) (view : View B) (stream : M → S) (state : M → F) (took : S → ℕ → S → Type 0) (makes : F → A → Made B) (next : F → A → F) (Held : F → H → Type 0) (makes' : H → below.pipeline.view.Seen → Made view.Seen) (next' : H → below.pipeline.view.Seen → H) (step : (f : F) (h : H) (a : A) (c : below.pipeline.view.Seen) → Held f h → below.pipeline.view.same a c → Making view.same (makes f a) (makes' h c) × Held (next f a) (next' h c)) where
  -- It is alike to each adapter of its kind over a stream that its own is alike to, with a state that matches its own.
  abbrev pub itemwise_alike : M → List (Answer view.Seen) → Type 0
  itemwise_alike m zs =
      (ys : List (Answer below.pipeline.view.Seen))
      × (h : H)
      × below.pipeline.alike (stream m) ys
      × Held (state m) h
      × (zs ≡ itemwise makes' next' h ys)

  pub itemwise_agrees : (m : M) (zs : List (Answer view.Seen)) → itemwise_alike m zs → Agree view.same (itemwise makes next (state m) (below.answers (stream m))) zs
  itemwise_agrees m zs w =
      itemwise_agree below.pipeline.view.same view.same Held makes next makes' next' step (state m) w.1 (below.answers (stream m)) w.0 zs w.3 (below.pipeline.agree (stream m) w.0 w.2) w.4

  -- A poll of it takes what `took` says of its stream.
  abbrev pub itemwise_pipeline : Pipeline (λ m. itemwise makes next (state m) (below.answers (stream m)))
  itemwise_pipeline = record {
    view = view;
    took = λ m w n. took (stream m) w (stream n);
    alike = itemwise_alike;
    agree = itemwise_agrees;
  }

-- The same where the state is a callback: `makes` says what is made of its output for an item, and of the item. A second pipeline has a behaviour, and they match when the two agree.
module _ {M S F A B O P : Type 0} (below : Streams S A) (callback : Callbacks F A O) (view : View B) (stream : M → S) (held : M → F) (took : S → ℕ → S → Type 0) (makes : O → A → Made B) (same : O → P → Type 0) (makes' : P → below.pipeline.view.Seen → Made view.Seen) (step : (o : O) (p : P) (a : A) (c : below.pipeline.view.Seen) → same o p → below.pipeline.view.same a c → Making view.same (makes o a) (makes' p c)) where
  abbrev pub Agreeing : F → Behaviour below.pipeline.view.Seen P → Type 0
  Agreeing = CallbacksAgree below.pipeline.view.same same callback.output callback.next gives onward

  pub callback_step : (f : F) (h : Behaviour below.pipeline.view.Seen P) (a : A) (c : below.pipeline.view.Seen) → Agreeing f h → below.pipeline.view.same a c → Making view.same (makes (callback.output f a) a) (makes' (gives h c) c) × Agreeing (callback.next f a) (onward h c)
  callback_step f h a c k r = (step (callback.output f a) (gives h c) a c (k 1 a c r).0 r, λ n. (k (suc n) a c r).1)

  abbrev pub callback_pipeline : Pipeline (λ m. itemwise (λ f x. makes (callback.output f x) x) callback.next (held m) (below.answers (stream m)))
  callback_pipeline =
      itemwise_pipeline below view stream held took (λ f x. makes (callback.output f x) x) callback.next Agreeing (λ h y. makes' (gives h y) y) onward callback_step
