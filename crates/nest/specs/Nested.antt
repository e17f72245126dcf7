-- An outer stream, and the inner stream of it that is held, if any: what Flatten and FlatMap share.
use Rattle.std.specs.Prelude.{◌≡◌, ℕ, List, Some, None, Option}
use Rattle.std.proofs.Common.{sym, subst}
use Rattle.stream.specs.declared.poll.Poll.TheVariants.{Ready}
use Rattle.stream.specs.declared.stream.Stream.{Ghosts as Streams}
use Rattle.stream.specs.Answers.{Answer, Agree, Matching, NoItem, waits_in}
use Rattle.stream.specs.Pipelines.{Pipeline, Polled}
use Rattle.nest.specs.FlattenRule.{NotNone, flattened, inner_first}
use Rattle.nest.specs.FlattenAgrees.{flattened_agree, inner_first_agree}

module _ {S U A : Type 0} (outer : Streams S U) (inner : Streams U A) where
  -- The answers from the outer stream s with o held: those of the inner stream that is held, and then those of the outer stream's.
  abbrev pub nested_answers : S → Option U → List (Answer A)
  nested_answers s o = inner_first inner.answers o (flattened inner.answers (outer.answers s))

  -- The outer stream was polled once, answered r, and became t.
  abbrev pub OuterPolled : S → Answer U → S → Type 0
  OuterPolled s r t = Polled outer.answers outer.pipeline s r t

  -- The inner stream u was polled once, answered r, and became v.
  abbrev pub InnerPolled : U → Answer A → U → Type 0
  InnerPolled u r v = Polled inner.answers inner.pipeline u r v

  -- One poll, from an outer stream and what is held of it, that took so many waits from below, to what they became: a chain of polls of the inner and the outer stream, of which the last gave the answer.
  pub data NestedTook : S → Option U → ℕ → S → Option U → Type 0 where
    -- The inner stream that is held answers, and stays; the outer one is as it was.
    inner_stays : {s : S} {u v : U} (r : Answer A) → InnerPolled u r v → NotNone r → NestedTook s (Some u) (waits_in r) s (Some v)
    -- No inner stream is held, and the outer one brings none.
    outer_only : {s t : S} (r : Answer U) → OuterPolled s r t → NoItem r → NestedTook s None (waits_in r) t None
    -- The inner stream that is held answers None and is dropped, and the poll goes on.
    inner_dropped : {s t : S} {u v : U} {o : Option U} {w : ℕ} → InnerPolled u (Ready None) v → NestedTook s None w t o → NestedTook s (Some u) w t o
    -- No inner stream is held, the outer one brings u, which is held, and the poll goes on.
    outer_brings : {s s' t : S} {u : U} {o : Option U} {w : ℕ} → OuterPolled s (Ready (Some u)) s' → NestedTook s' (Some u) w t o → NestedTook s None w t o

  -- It is alike to each of its kind over an outer stream that its own is alike to, whose inner streams have lists that agree with those of its own; so has the one that is held, if any. `lists` has the list of an inner stream as it is seen.
  abbrev pub nested_alike : S → Option U → List (Answer inner.pipeline.view.Seen) → Type 0
  nested_alike s o zs =
      (lists : outer.pipeline.view.Seen → List (Answer inner.pipeline.view.Seen))
      × (vs : List (Answer outer.pipeline.view.Seen))
      × (p : Option (List (Answer inner.pipeline.view.Seen)))
      × ((u : U) (v : outer.pipeline.view.Seen) → outer.pipeline.view.same u v → Agree inner.pipeline.view.same (inner.answers u) (lists v))
      × outer.pipeline.alike s vs
      × Matching (λ u ys. Agree inner.pipeline.view.same (inner.answers u) ys) o p
      × (zs ≡ inner_first (λ ys. ys) p (flattened lists vs))

  pub nested_agree : (s : S) (o : Option U) (zs : List (Answer inner.pipeline.view.Seen)) → nested_alike s o zs → Agree inner.pipeline.view.same (nested_answers s o) zs
  nested_agree s o zs w =
      let same = inner.pipeline.view.same in
      subst (Agree same (nested_answers s o)) (sym w.6)
      (inner_first_agree same inner.answers o w.2 _ _ w.5 (flattened_agree same outer.pipeline.view.same inner.answers w.0 w.3 (outer.answers s) w.1 (outer.pipeline.agree s w.1 w.4)))

  -- An adapter M that holds them both. Its items are seen as those of the inner streams are; a poll takes what the polls of the inner and the outer streams take.
  abbrev pub nested_pipeline : {M : Type 0} (stream : M → S) (held : M → Option U) → Pipeline (λ m. nested_answers (stream m) (held m))
  nested_pipeline stream held = record {
    view = inner.pipeline.view;
    took = λ m w n. NestedTook (stream m) (held m) w (stream n) (held n);
    alike = λ m. nested_alike (stream m) (held m);
    agree = λ m. nested_agree (stream m) (held m);
  }

  -- The pair of the two, as such an adapter.
  abbrev pub pair_answers : S × Option U → List (Answer A)
  pair_answers p = nested_answers p.0 p.1

  abbrev pub pair_pipeline : Pipeline pair_answers
  pair_pipeline = nested_pipeline (λ p. p.0) (λ p. p.1)
