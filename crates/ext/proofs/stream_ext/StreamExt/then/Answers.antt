use Rattle.std.proofs.Common.{None, refl}
use Rattle.nest.specs.ThenPipeline.{SameOutput}
use Rattle.ext.proofs.Building.{callback_kept, empty_matches, stream_kept}
use Rattle.ext.proofs.stream_ext.StreamExt.then.Goals as goal

pub returns-clause-alike : goal.returns-clause-alike
returns-clause-alike g c =
    let e = c.new.ensures in
    let same = SameOutput g.Self.Stream g.F.Callback g.Fut.Future in
    λ ys h a k. (ys, h, None, stream_kept g.Self.Stream e.0 ys a, callback_kept g.Self.Stream g.F.Callback same e.2 h k, empty_matches same e.1, refl)
