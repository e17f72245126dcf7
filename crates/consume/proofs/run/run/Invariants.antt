use Rattle.consume.specs.Runs.{Waited}
use Rattle.consume.proofs.run.run.Given as goal

abbrev pub invariant-loop-waits : goal.invariant-loop-waits
invariant-loop-waits g l = Waited g.C.Consumer.meaning g.C.Below.Stream g.X.Sink g.Y.Sink l.initial.consumer l.initial.first l.initial.second l.waits l.consumer l.first l.second
