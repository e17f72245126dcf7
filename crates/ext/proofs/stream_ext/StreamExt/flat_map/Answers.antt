use Rattle.std.proofs.Common.{None, refl}
use Rattle.stream.specs.Answers.{Agree}
use Rattle.stream.specs.Callbacks.{gives, onward}
use Rattle.transform.specs.MapRule.{mapped}
use Rattle.ext.proofs.Building.{callback_kept, empty_matches, stream_kept}
use Rattle.ext.proofs.stream_ext.StreamExt.flat_map.Goals as goal

pub returns-clause-alike : goal.returns-clause-alike
returns-clause-alike g c =
    let e = c.new.ensures in
    let inner = g.U.Stream.answers in
    λ lists same ys h a k. (
      lists,
      mapped gives onward h ys,
      None,
      same,
      (ys, h, stream_kept g.Self.Stream e.0 ys a, callback_kept g.Self.Stream g.F.Callback g.F.Callback.outputs.same e.1 h k, refl),
      empty_matches (λ u l. Agree g.U.Stream.pipeline.view.same (inner u) l) e.2,
      refl,
    )
