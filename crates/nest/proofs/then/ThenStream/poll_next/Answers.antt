use Rattle.std.proofs.Common.{Some, None, refl, ap, rules}
use Rattle.stream.specs.declared.poll.Poll.TheVariants.{Ready, Pending}
use Rattle.nest.proofs.Thening.{brought, future_polled, stream_polled}
use Rattle.nest.proofs.then.ThenStream.poll_next.Goals as goal

pub returns-in-Some-clause-polled : goal.returns-in-Some-clause-polled
returns-in-Some-clause-polled g c = future_polled c.loop-self.invariant Pending c.in-Some.is c.poll.ensures.polled (search rules)

pub returns-in-Some-clause-parts : goal.returns-in-Some-clause-parts
returns-in-Some-clause-parts g c = (returns-in-Some-clause-polled g c).took

pub returns-in-Some-2-clause-polled : goal.returns-in-Some-2-clause-polled
returns-in-Some-2-clause-polled g c = future_polled c.loop-self.invariant (Ready _) c.in-Some.is c.poll.ensures.polled (search rules)

pub returns-in-Some-2-clause-parts : goal.returns-in-Some-2-clause-parts
returns-in-Some-2-clause-parts g c = (returns-in-Some-2-clause-polled g c).took

pub returns-in_default-clause-polled : goal.returns-in_default-clause-polled
returns-in_default-clause-polled g c = stream_polled c.loop-self.invariant c.in_default.is c.poll_next.ensures.polled Pending tt (search rules)

pub returns-in_default-clause-parts : goal.returns-in_default-clause-parts
returns-in_default-clause-parts g c = (returns-in_default-clause-polled g c).took

pub returns-in_default-ready-clause-polled : goal.returns-in_default-ready-clause-polled
returns-in_default-ready-clause-polled g c = stream_polled c.loop-self.invariant c.in_default.is c.poll_next.ensures.polled (Ready None) tt (search rules)

pub returns-in_default-ready-clause-parts : goal.returns-in_default-ready-clause-parts
returns-in_default-ready-clause-parts g c = (returns-in_default-ready-clause-polled g c).took

pub loop-self-preserved : goal.loop-self-preserved
loop-self-preserved g c =
    brought c.loop-self.invariant c.in_default.is c.poll_next.ensures.polled c.in-Some-ready.item (search rules) refl (ap Some c.call.ensures.output) c.call.ensures.next
