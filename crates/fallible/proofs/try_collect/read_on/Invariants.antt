use Rattle.std.proofs.Common.{[], length, None}
use Rattle.consume.proofs.Polling.{Within}
use Rattle.fallible.specs.TryCollects.{try_collects}
use Rattle.fallible.proofs.try_collect.read_on.Given as goal

abbrev pub invariant-loop-stream : goal.invariant-loop-stream
invariant-loop-stream g l = Within try_collects g.S.Stream g.X.Sink g.Y.Sink (record { stream = l.initial.stream; kept = None }) l.initial.first l.initial.second l.stream None [] l.first l.second

abbrev pub decreases-loop-stream : goal.decreases-loop-stream
decreases-loop-stream g l = length (g.S.Stream.answers l.stream)
