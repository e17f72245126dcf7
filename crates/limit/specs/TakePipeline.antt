-- Take as part of a pipeline.
use Rattle.std.specs.Prelude.{◌≡◌, ℕ, ◌<◌, List}
use Rattle.std.proofs.Common.{sym, subst}
use Rattle.stream.specs.declared.stream.Stream.{Ghosts as Streams}
use Rattle.stream.specs.Answers.{Answer, Agree, waits_in}
use Rattle.stream.specs.Pipelines.{Pipeline, Polled}
use Rattle.limit.specs.declared.take.Take.{Take}
use Rattle.limit.specs.TakeRule.{left_by, taken}
use Rattle.limit.specs.TakeAgrees.{taken_agree}

module _ {S A : Type 0} (below : Streams S A) where
  -- The answers of a Take: those of its stream, up to as many items as it may still pass on.
  abbrev pub take_answers : Take S → List (Answer A)
  take_answers m = taken m.n (below.answers m.stream)

  -- One poll of a Take, from m to n, that took w waits from below.
  pub data TakeTook (m : Take S) (w : ℕ) (n : Take S) : Type 0 where
    -- No item may be passed on: nothing is polled and nothing changes.
    at_end : m.n ≡ 0 → n ≡ m → w ≡ 0 → TakeTook m w n
    -- Some may: its stream was polled once.
    polled_once : (r : Answer A) → 0 < m.n → Polled below.answers below.pipeline m.stream r n.stream → n.n ≡ left_by m.n r → w ≡ waits_in r → TakeTook m w n

  -- A Take is alike to each Take over a stream that its own is alike to, with the same number.
  abbrev pub take_alike : Take S → List (Answer below.pipeline.view.Seen) → Type 0
  take_alike m zs =
      (ys : List (Answer below.pipeline.view.Seen))
      × below.pipeline.alike m.stream ys
      × (zs ≡ taken m.n ys)

  pub take_agree : (m : Take S) (zs : List (Answer below.pipeline.view.Seen)) → take_alike m zs → Agree below.pipeline.view.same (take_answers m) zs
  take_agree m zs w =
      subst (Agree below.pipeline.view.same (take_answers m)) (sym w.2) (taken_agree below.pipeline.view.same m.n (below.answers m.stream) w.0 (below.pipeline.agree m.stream w.0 w.1))

  -- Its items are seen as its stream's are.
  abbrev pub take_pipeline : Pipeline take_answers
  take_pipeline = record {
    view = below.pipeline.view;
    took = TakeTook;
    alike = take_alike;
    agree = take_agree;
  }
