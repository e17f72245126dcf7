use Rattle.law.proofs.Lawful.{RunSoFar}
use Rattle.law.proofs.poll_both.poll_both.Given as goal

abbrev pub invariant-loop : goal.invariant-loop
invariant-loop g l =
    RunSoFar g.P.Stream g.Q.Stream g.V.Callback l.initial.p l.initial.q l.initial.viewer l.initial.turn l.counter l.p l.q l.viewer l.turn
