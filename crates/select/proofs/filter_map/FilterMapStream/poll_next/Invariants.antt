use Rattle.std.proofs.Common.{length}
use Rattle.stream.proofs.Reading.{Reading}
use Rattle.select.specs.FilterMapRule.{filter_maps}
use Rattle.select.proofs.filter_map.FilterMapStream.poll_next.Given as goal

abbrev pub invariant-loop-item : goal.invariant-loop-item
invariant-loop-item g l = Reading g.S.Stream (filter_maps g.F.Callback.output) g.F.Callback.next (λ m. m.stream) (λ m. m.f) l.initial.self l.self

abbrev pub decreases-loop-item : goal.decreases-loop-item
decreases-loop-item g l = length (g.S.Stream.answers l.self.stream)
