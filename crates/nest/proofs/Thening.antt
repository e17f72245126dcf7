-- One poll of Then: the stream is polled while no future is held, and then the future.
use Rattle.std.proofs.Common.{◌≡◌, ℕ, Some, None, sym, refl, ◌∙◌, subst, subst₂, arith}
use Rattle.stream.specs.declared.callback.Callback.{Ghosts as Callbacks}
use Rattle.stream.specs.declared.future.Future.{Ghosts as Futures}
use Rattle.stream.specs.declared.poll.Poll.{Poll}
use Rattle.stream.specs.declared.poll.Poll.TheVariants.{Ready, Pending}
use Rattle.stream.specs.declared.stream.Stream.{Ghosts as Streams}
use Rattle.stream.specs.Answers.{Answer, NoItem}
use Rattle.stream.specs.Futures.{FuturePolled}
use Rattle.stream.specs.Pipelines.{Polled}
use Rattle.nest.specs.declared.then.Then.{Then}
use Rattle.nest.specs.ThenRule.{held_after}
use Rattle.nest.specs.ThenPipeline.{ThenTook, then_answers, then_pipeline}
use Rattle.nest.specs.ThenPipeline.ThenTook.{future_only, stream_only, both_polled}
use Rattle.stream.proofs.Cases.{never}
use Rattle.stream.proofs.Passing.{Goes_on, goes_on, passed, passed_waits}

-- what a Then answers where the future that it holds answers r
abbrev pub as_item : {B : Type 0} → Poll B → Answer B
as_item Pending = Pending
as_item (Ready b) = Ready (Some b)

module _ {S F A U B : Type 0} (below : Streams S A) (callback : Callbacks F A U) (futures : Futures U B) where
  -- a poll of a Then, from m to t, that answered r
  abbrev pub PollOf : Then S F U → Answer B → Then S F U → Type 0
  PollOf m r t = Polled (then_answers below callback futures) (then_pipeline below callback futures) m r t

  -- A poll that began at m goes on at t.
  pub record Turns (m t : Then S F U) : Type 0 where
    pub shows : Goes_on (then_answers below callback futures) (then_pipeline below callback futures) m t

-- Where a poll that began at m₀ goes on at m,
module _ {S F A U B : Type 0} {below : Streams S A} {callback : Callbacks F A U} {futures : Futures U B} {m₀ m : Then S F U} (h : Turns below callback futures m₀ m) where
  -- and the future u was held;
  pub future_polled : {u v : U} {r' : Poll B} (r : Poll B) → m.future ≡ Some u → FuturePolled futures.waits futures.output futures.took u r' v → r' ≡ r → PollOf below callback futures m₀ (as_item r) (record { stream = m.stream; future = held_after v r; f = m.f })
  future_polled {u} {v} r e p i =
      let q = subst (λ z. FuturePolled futures.waits futures.output futures.took u z v) i p in
      h.shows (as_item r) (record { stream = m.stream; future = held_after v r; f = m.f }) (record {
        answer = grind arith;
        after = grind arith;
        took = future_only u v r e (q, refl) refl refl (grind arith);
      })

  -- and none was held, and the stream
  module _ {s : S} {r' : Answer A} (e : m.future ≡ None) (p : Polled below.answers below.pipeline m.stream r' s) where
    -- brought no item;
    pub stream_polled : (r : Answer A) (n : NoItem r) → r' ≡ r → PollOf below callback futures m₀ (passed r n) (record { stream = s; future = m.future; f = m.f })
    stream_polled r n i =
        let q = subst (λ z. Polled below.answers below.pipeline m.stream z s) i p in
        h.shows (passed r n) (record { stream = s; future = m.future; f = m.f }) (record {
          answer = grind arith;
          after = grind arith;
          took = stream_only r e q n e refl (passed_waits B r n);
        })

    -- brought the item x, of which the callback made a future.
    pub brought : {n : Then S F U} (x : A) → r' ≡ Ready (Some x) → n.stream ≡ s → n.future ≡ Some (callback.output m.f x) → n.f ≡ callback.next m.f x → Turns below callback futures m₀ n
    brought {n} x i j o f = record {
      shows = λ r t w. h.shows r t (goes_on (then_answers below callback futures) (then_pipeline below callback futures) m n same went r t w);
    }
      where
        q : Polled below.answers below.pipeline m.stream (Ready (Some x)) n.stream
        q = subst₂ (Polled below.answers below.pipeline m.stream) i (sym j) p

        same : then_answers below callback futures n ≡ then_answers below callback futures m
        same = grind arith

        made : (u : U) → n.future ≡ Some u → u ≡ callback.output m.f x
        made u z = cc

        went : (w : ℕ) (t : Then S F U) → ThenTook below callback futures n w t → ThenTook below callback futures m w t
        went w t (future_only u v r z g d k l) =
            both_polled x v r e (subst (Polled below.answers below.pipeline m.stream (Ready (Some x))) (sym d) q) (k ∙ f) (subst (λ z. FuturePolled futures.waits futures.output futures.took z r v) (made u z) g.0, g.1) l
        went w t (stream_only r z g k d b l) = never (cc)
        went w t (both_polled y v r z g k d l) = never (cc)
