-- Then as part of a pipeline.
use Rattle.std.specs.Prelude.{◌≡◌, ℕ, List, Some, None, Option}
use Rattle.std.proofs.Common.{sym, subst}
use Rattle.stream.specs.declared.callback.Callback.{Ghosts as Callbacks}
use Rattle.stream.specs.declared.future.Future.{Ghosts as Futures}
use Rattle.stream.specs.declared.poll.Poll.{Poll}
use Rattle.stream.specs.declared.poll.Poll.TheVariants.{Ready}
use Rattle.stream.specs.declared.stream.Stream.{Ghosts as Streams}
use Rattle.stream.specs.Answers.{Answer, Agree, Matching, NoItem, waits_in}
use Rattle.stream.specs.Callbacks.{Behaviour, CallbacksAgree, gives, onward}
use Rattle.stream.specs.Futures.{FuturePolled}
use Rattle.stream.specs.Pipelines.{Pipeline, Polled}
use Rattle.nest.specs.declared.then.Then.{Then}
use Rattle.nest.specs.ThenRule.{future_first, held_after, thened}
use Rattle.nest.specs.ThenAgrees.{future_agree, thened_agree}

module _ {S F A U B : Type 0} (below : Streams S A) (callback : Callbacks F A U) (futures : Futures U B) where
  -- The answers of a Then: those of the future that it holds, if any, and then those of its stream, by its callback.
  abbrev pub then_answers : Then S F U → List (Answer B)
  then_answers m =
      future_first futures.waits futures.output m.future (thened callback.output callback.next futures.waits futures.output m.f (below.answers m.stream))

  -- The stream was polled once between m and m', and answered r.
  abbrev pub StreamPolled : Then S F U → Answer A → Then S F U → Type 0
  StreamPolled m r m' = Polled below.answers below.pipeline m.stream r m'.stream

  -- The future u was polled once, answered r, and became v, which m' still holds if the answer is a wait.
  abbrev pub HeldPolled : U → Poll B → U → Then S F U → Type 0
  HeldPolled u r v m' = FuturePolled futures.waits futures.output futures.took u r v × (m'.future ≡ held_after v r)

  -- One poll of a Then, from m to m', that took w waits from below: what each part that it polled answered, which parts it left as they were, and what it holds afterwards.
  pub data ThenTook (m : Then S F U) (w : ℕ) (m' : Then S F U) : Type 0 where
    -- A future u was held: only it was polled.
    future_only : (u v : U) (r : Poll B) → m.future ≡ Some u → HeldPolled u r v m' → m'.stream ≡ m.stream → m'.f ≡ m.f → w ≡ waits_in r → ThenTook m w m'
    -- No future was held and the stream brought no item: only the stream was polled.
    stream_only : (r : Answer A) → m.future ≡ None → StreamPolled m r m' → NoItem r → m'.future ≡ None → m'.f ≡ m.f → w ≡ waits_in r → ThenTook m w m'
    -- No future was held and the stream brought x: the callback was called with it, and the future that it made was polled.
    both_polled : (x : A) (v : U) (r : Poll B) → m.future ≡ None → StreamPolled m (Ready (Some x)) m' → m'.f ≡ callback.next m.f x → HeldPolled (callback.output m.f x) r v m' → w ≡ waits_in r → ThenTook m w m'

  -- A future of a second pipeline is seen as its waits and its output; it matches one whose output is the same.
  abbrev pub SeenFuture : Type 0
  SeenFuture = ℕ × futures.outputs.Seen

  abbrev pub SameOutput : U → SeenFuture → Type 0
  SameOutput u v = futures.outputs.same (futures.output u) v.1

  -- A Then is alike to each Then over a stream that its own is alike to, with a callback that agrees and, if a future is held, one with the same output.
  abbrev pub then_alike : Then S F U → List (Answer futures.outputs.Seen) → Type 0
  then_alike m zs =
      (ys : List (Answer below.pipeline.view.Seen))
      × (h : Behaviour below.pipeline.view.Seen SeenFuture)
      × (o : Option SeenFuture)
      × below.pipeline.alike m.stream ys
      × CallbacksAgree below.pipeline.view.same SameOutput callback.output callback.next gives onward m.f h
      × Matching SameOutput m.future o
      × (zs ≡ future_first (λ v. v.0) (λ v. v.1) o (thened gives onward (λ v. v.0) (λ v. v.1) h ys))

  pub then_agree : (m : Then S F U) (zs : List (Answer futures.outputs.Seen)) → then_alike m zs → Agree futures.outputs.same (then_answers m) zs
  then_agree m zs w =
      let seen = below.pipeline.view.same in
      let same = futures.outputs.same in
      subst (Agree same (then_answers m)) (sym w.6)
      (future_agree seen same callback.output callback.next futures.waits futures.output gives onward (λ v. v.0) (λ v. v.1) m.future w.2 _ _ w.5
      (thened_agree seen same callback.output callback.next futures.waits futures.output gives onward (λ v. v.0) (λ v. v.1) m.f w.1 (below.answers m.stream) w.0 w.4 (below.pipeline.agree m.stream w.0 w.3)))

  -- Its items are seen as the futures' outputs are; a poll takes what the polls of its parts take.
  abbrev pub then_pipeline : Pipeline then_answers
  then_pipeline = record {
    view = futures.outputs;
    took = ThenTook;
    alike = then_alike;
    agree = then_agree;
  }
