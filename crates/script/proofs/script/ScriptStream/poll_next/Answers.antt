use Rattle.script.proofs.Answering.{left_right}
use Rattle.script.proofs.script.ScriptStream.poll_next.Goals as goal

pub invariant_of-self : goal.invariant_of-self
invariant_of-self c = record { right = left_right (rw c.in-Ok-Some.field-0-is at c.in-Ok-Some.ensures) c.args.self.now.right }
