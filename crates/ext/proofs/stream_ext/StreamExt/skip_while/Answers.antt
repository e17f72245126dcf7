use Rattle.std.proofs.Common.{Some, sym, refl, subst}
use Rattle.stream.specs.Answers.{Matching}
use Rattle.stream.specs.Callbacks.{gives, onward}
use Rattle.select.specs.SkipWhileAgrees.{Agreeing}
use Rattle.ext.proofs.Building.{stream_kept}
use Rattle.ext.proofs.stream_ext.StreamExt.skip_while.Goals as goal

pub returns-clause-alike : goal.returns-clause-alike
returns-clause-alike g c =
    let e = c.new.ensures in
    λ ys h a k. (
      ys,
      Some h,
      stream_kept g.Self.Stream e.0 ys a,
      subst (λ o. Matching (Agreeing g.Self.Stream.pipeline.view.same g.P.Callback.output g.P.Callback.next gives onward) o (Some h)) (sym e.1) k,
      refl,
    )
