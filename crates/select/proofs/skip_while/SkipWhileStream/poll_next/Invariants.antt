use Rattle.std.proofs.Common.{length}
use Rattle.stream.proofs.Reading.{Reading}
use Rattle.select.specs.SkipWhileRule.{let_go, skips_while}
use Rattle.select.proofs.skip_while.SkipWhileStream.poll_next.Given as goal

abbrev pub invariant-loop-item : goal.invariant-loop-item
invariant-loop-item g l =
    Reading g.S.Stream (skips_while g.P.Callback.output) (let_go g.P.Callback.output g.P.Callback.next) (λ m. m.stream) (λ m. m.predicate) l.initial.self l.self

abbrev pub decreases-loop-item : goal.decreases-loop-item
decreases-loop-item g l = length (g.S.Stream.answers l.self.stream)
