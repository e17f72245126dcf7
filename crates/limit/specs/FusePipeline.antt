-- Fuse as part of a pipeline.
use Rattle.std.specs.Prelude.{◌≡◌, ℕ, Bool, true, false, List, []}
use Rattle.std.proofs.Common.{sym, subst}
use Rattle.stream.specs.declared.stream.Stream.{Ghosts as Streams}
use Rattle.stream.specs.Answers.{Answer, Agree, waits_in}
use Rattle.stream.specs.NonesAgree.{before_none_agree}
use Rattle.stream.specs.Pipelines.{Pipeline, Polled}
use Rattle.limit.specs.declared.fuse.Fuse.{Fuse}
use Rattle.limit.specs.FuseRule.{done_by, fused_unless}

module _ {S A : Type 0} (below : Streams S A) where
  -- The answers of a Fuse: those of its stream before the first None, and none once it is done.
  abbrev pub fuse_answers : Fuse S → List (Answer A)
  fuse_answers m = fused_unless m.done (below.answers m.stream)

  -- One poll of a Fuse, from m to n, that took w waits from below.
  pub data FuseTook (m : Fuse S) (w : ℕ) (n : Fuse S) : Type 0 where
    -- It was done: nothing is polled and nothing changes.
    was_done : m.done ≡ true → n ≡ m → w ≡ 0 → FuseTook m w n
    -- It was not: its stream was polled once, and it is done if that answered None.
    polled_once : (r : Answer A) → m.done ≡ false → Polled below.answers below.pipeline m.stream r n.stream → n.done ≡ done_by r → w ≡ waits_in r → FuseTook m w n

  -- A Fuse is alike to each Fuse over a stream that its own is alike to, where both or neither are done.
  abbrev pub fuse_alike : Fuse S → List (Answer below.pipeline.view.Seen) → Type 0
  fuse_alike m zs =
      (ys : List (Answer below.pipeline.view.Seen))
      × below.pipeline.alike m.stream ys
      × (zs ≡ fused_unless m.done ys)

  fused_agree : (b : Bool) (xs : List (Answer A)) (ys : List (Answer below.pipeline.view.Seen)) → Agree below.pipeline.view.same xs ys → Agree below.pipeline.view.same (fused_unless b xs) (fused_unless b ys)
  fused_agree true xs ys h = tt
  fused_agree false xs ys h = before_none_agree below.pipeline.view.same xs ys [] [] h tt

  pub fuse_agree : (m : Fuse S) (zs : List (Answer below.pipeline.view.Seen)) → fuse_alike m zs → Agree below.pipeline.view.same (fuse_answers m) zs
  fuse_agree m zs w =
      subst (Agree below.pipeline.view.same (fuse_answers m)) (sym w.2) (fused_agree m.done (below.answers m.stream) w.0 (below.pipeline.agree m.stream w.0 w.1))

  -- Its items are seen as its stream's are.
  abbrev pub fuse_pipeline : Pipeline fuse_answers
  fuse_pipeline = record {
    view = below.pipeline.view;
    took = FuseTook;
    alike = fuse_alike;
    agree = fuse_agree;
  }
