use Rattle.std.proofs.Common.{length}
use Rattle.nest.proofs.Thening.{Turns}
use Rattle.nest.proofs.then.ThenStream.poll_next.Given as goal

abbrev pub invariant-loop-self : goal.invariant-loop-self
invariant-loop-self g l = Turns g.S.Stream g.F.Callback g.Fut.Future l.initial.self l.self

abbrev pub decreases-loop-self : goal.decreases-loop-self
decreases-loop-self g l = length (g.S.Stream.answers l.self.stream)
