use Rattle.std.proofs.Common.{◌≡◌}
use Rattle.ext.proofs.Building.{by_callback}
use Rattle.ext.proofs.stream_ext.StreamExt.take_while.Goals as goal

pub returns-clause-alike : goal.returns-clause-alike
returns-clause-alike g c = by_callback g.Self.Stream g.P.Callback (λ b d. b ≡ d) _ c.new.ensures.0 c.new.ensures.1
