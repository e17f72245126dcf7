use Rattle.std.proofs.Common.{length}
use Rattle.stream.proofs.Reading.{Reading}
use Rattle.limit.specs.SkipRule.{fewer, skips}
use Rattle.limit.proofs.skip.SkipStream.poll_next.Given as goal

abbrev pub invariant-loop-item : goal.invariant-loop-item
invariant-loop-item g l = Reading g.S.Stream skips fewer (λ m. m.stream) (λ m. m.n) l.initial.self l.self

abbrev pub decreases-loop-item : goal.decreases-loop-item
decreases-loop-item g l = length (g.S.Stream.answers l.self.stream)
