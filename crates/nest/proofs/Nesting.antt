-- One poll of a held inner stream and its outer one, by what they answer.
use Rattle.std.proofs.Common.{◌≡◌, Some, None, Option, sym, ◌∙◌, subst, arith}
use Rattle.stream.specs.declared.poll.Poll.TheVariants.{Ready}
use Rattle.stream.specs.declared.stream.Stream.{Ghosts as Streams}
use Rattle.stream.specs.Answers.{Answer, NoItem}
use Rattle.stream.specs.Pipelines.{Polled}
use Rattle.nest.specs.FlattenRule.{NotNone}
use Rattle.nest.specs.Nested.{NestedTook, pair_answers, pair_pipeline}
use Rattle.nest.specs.Nested.NestedTook.{inner_stays, inner_dropped, outer_brings, outer_only}
use Rattle.stream.proofs.Passing.{Goes_on, goes_on, passed, passed_waits}

module _ {S U A : Type 0} (outer : Streams S U) (inner : Streams U A) where
  -- a poll from the outer stream s with o held, to t and q, that answered r
  abbrev pub PollOf : S → Option U → Answer A → S → Option U → Type 0
  PollOf s o r t q = Polled (pair_answers outer inner) (pair_pipeline outer inner) (s, o) r (t, q)

  -- A poll that began at s with o held goes on at t with q held.
  pub record Turns (s : S) (o : Option U) (t : S) (q : Option U) : Type 0 where
    pub shows : Goes_on (pair_answers outer inner) (pair_pipeline outer inner) (s, o) (t, q)

  -- A poll that began at s with o held is about to poll the outer stream t: none is held.
  pub record Cleared (s : S) (o : Option U) (t : S) (q : Option U) : Type 0 where
    pub none_held : q ≡ None
    pub turns : Turns s o t None

-- Where a poll that began at s₀ with o₀ held goes on at s with o held,
module _ {S U A : Type 0} {outer : Streams S U} {inner : Streams U A} {s₀ s : S} {o₀ o : Option U} (h : Turns outer inner s₀ o₀ s o) where
  -- and the inner stream u was held
  module _ {u v : U} {r' : Answer A} (e : o ≡ Some u) (p : Polled inner.answers inner.pipeline u r' v) where
    -- and answered r, which is not None;
    pub inner_answered : (r : Answer A) → r' ≡ r → NotNone r → PollOf outer inner s₀ o₀ r s (Some v)
    inner_answered r i n =
        let q = subst (λ z. Polled inner.answers inner.pipeline u z v) i p in
        h.shows r (s, Some v) (subst (λ z. PollOf outer inner s z r s (Some v)) (sym e) (record {
          answer = grind arith;
          after = grind arith;
          took = inner_stays r q n;
        }))

    -- and answered None;
    pub inner_gone : {o' : Option U} → r' ≡ Ready None → o' ≡ None → Cleared outer inner s₀ o₀ s o'
    inner_gone i j =
        let q = subst (λ z. Polled inner.answers inner.pipeline u z v) i p in
        record {
          none_held = j;
          turns = record { shows = λ r t w. h.shows r t (subst (λ z. Polled (pair_answers outer inner) (pair_pipeline outer inner) (s, z) r t) (sym e) (goes_on (pair_answers outer inner) (pair_pipeline outer inner) (s, Some u) (s, None) (grind arith) (λ w t g. inner_dropped q g) r t w)) };
        }

  -- and none was held.
  pub not_held : {o' : Option U} → o ≡ None → o' ≡ o → Cleared outer inner s₀ o₀ s o'
  not_held e j = record { none_held = j ∙ e; turns = subst (Turns outer inner s₀ o₀ s) e h }

-- Where it is about to poll the outer stream s,
module _ {S U A : Type 0} {outer : Streams S U} {inner : Streams U A} {s₀ s t : S} {o₀ o : Option U} {r' : Answer U} (h : Cleared outer inner s₀ o₀ s o) (p : Polled outer.answers outer.pipeline s r' t) where
  -- which brings no inner stream;
  pub outer_answered : (r : Answer U) (n : NoItem r) → r' ≡ r → PollOf outer inner s₀ o₀ (passed r n) t o
  outer_answered r n i =
      let q = subst (λ z. Polled outer.answers outer.pipeline s z t) i p in
      subst (PollOf outer inner s₀ o₀ (passed r n) t) (sym h.none_held) (h.turns.shows (passed r n) (t, None) (record {
        answer = grind arith;
        after = grind arith;
        took = subst (λ w. NestedTook outer inner s None w t None) (sym (passed_waits A r n)) (outer_only r q n);
      }))

  -- which brings u.
  pub outer_brought : (u : U) → r' ≡ Ready (Some u) → Turns outer inner s₀ o₀ t (Some u)
  outer_brought u i =
      let q = subst (λ z. Polled outer.answers outer.pipeline s z t) i p in
      record { shows = λ r x w. h.turns.shows r x (goes_on (pair_answers outer inner) (pair_pipeline outer inner) (s, None) (t, Some u) (grind arith) (λ w x g. outer_brings q g) r x w) }
