use Rattle.std.proofs.Common.{length}
use Rattle.nest.proofs.Nesting.{Turns}
use Rattle.nest.proofs.inner.poll_inner.Given as goal

abbrev pub invariant-loop-inner_stream : goal.invariant-loop-inner_stream
invariant-loop-inner_stream g l = Turns g.S.Stream g.U.Stream l.initial.stream l.initial.inner_stream l.stream l.inner_stream

abbrev pub decreases-loop-inner_stream : goal.decreases-loop-inner_stream
decreases-loop-inner_stream g l = length (g.S.Stream.answers l.stream)
