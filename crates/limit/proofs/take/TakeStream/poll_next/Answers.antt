use Rattle.std.proofs.Common.{refl, arith}
use Rattle.limit.proofs.Taking.{take_polled}
use Rattle.limit.proofs.take.TakeStream.poll_next.Goals as goal

pub returns-clause-polled : goal.returns-clause-polled
returns-clause-polled g c = take_polled (omega arith) c.poll_next.ensures.polled (cc) refl refl

pub returns-clause-parts : goal.returns-clause-parts
returns-clause-parts g c = (returns-clause-polled g c).took

pub returns-2-clause-polled : goal.returns-2-clause-polled
returns-2-clause-polled g c = take_polled (omega arith) c.poll_next.ensures.polled (cc) (grind arith) (grind arith)

pub returns-2-clause-parts : goal.returns-2-clause-parts
returns-2-clause-parts g c = (returns-2-clause-polled g c).took
