use Rattle.std.proofs.Common.{None, refl}
use Rattle.stream.specs.Answers.{Agree}
use Rattle.ext.proofs.Building.{empty_matches, stream_kept}
use Rattle.ext.proofs.stream_ext.StreamExt.flatten.Goals as goal

pub returns-clause-alike : goal.returns-clause-alike
returns-clause-alike g c =
    let e = c.new.ensures in
    λ lists vs inner a. (lists, vs, None, inner, stream_kept g.Self.Stream e.0 vs a, empty_matches (λ u ys. Agree g.Self.Item.Stream.pipeline.view.same (g.Self.Item.Stream.answers u) ys) e.1, refl)
