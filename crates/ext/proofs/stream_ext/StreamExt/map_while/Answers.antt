use Rattle.stream.specs.Answers.{Matching}
use Rattle.stream.specs.Views.{insides}
use Rattle.ext.proofs.Building.{by_callback}
use Rattle.ext.proofs.stream_ext.StreamExt.map_while.Goals as goal

pub returns-clause-alike : goal.returns-clause-alike
returns-clause-alike g c = by_callback g.Self.Stream g.P.Callback (Matching (insides g.P.Callback.outputs).same) _ c.new.ensures.0 c.new.ensures.1
