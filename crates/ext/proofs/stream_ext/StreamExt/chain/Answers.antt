use Rattle.std.proofs.Common.{[], sym, ap, ◌∙◌, ap₂}
use Rattle.stream.specs.Nones.{before_none}
use Rattle.stream.specs.NonesAgree.{before_none_agree}
use Rattle.limit.specs.FuseRule.{fused, fused_unless}
use Rattle.ext.proofs.Building.{stream_kept}
use Rattle.ext.proofs.Chained.{fused_once}
use Rattle.ext.proofs.stream_ext.StreamExt.chain.Goals as goal

pub returns-clause-list : goal.returns-clause-list
returns-clause-list g c =
    let e = c.new.ensures in
    let one = g.Self.Stream in
    let two = g.U.Stream in
    ap₂ before_none (ap₂ (λ b s. fused_unless b (one.answers s)) e.1 e.0) (ap₂ (λ b s. fused_unless b (two.answers s)) e.3 e.2)
    ∙ fused_once (one.answers c.args.self) (fused (two.answers c.args.other))

pub returns-clause-alike : goal.returns-clause-alike
returns-clause-alike g c =
    let e = c.new.ensures in
    λ xs ys seen a b k. (
      fused xs,
      fused ys,
      fused seen,
      (xs, stream_kept g.Self.Stream e.0 xs a, sym (ap (λ v. fused_unless v xs) e.1)),
      (ys, stream_kept g.U.Stream e.2 ys b, sym (ap (λ v. fused_unless v ys) e.3)),
      before_none_agree _ ys seen [] [] k tt,
      sym (fused_once xs (fused seen)),
    )
