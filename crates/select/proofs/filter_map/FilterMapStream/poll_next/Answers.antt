use Rattle.std.proofs.Common.{refl, rules}
use Rattle.stream.proofs.Reading.{begun, drops, makes_item, passes_none, waits}
use Rattle.select.proofs.filter_map.FilterMapStream.poll_next.Goals as goal

pub loop-item-init : goal.loop-item-init
loop-item-init g c = begun

pub returns-in-loop-item-clause-polled : goal.returns-in-loop-item-clause-polled
returns-in-loop-item-clause-polled g c = waits c.loop-item.invariant c.poll_next.ensures.polled (search rules) refl

pub returns-in-None-clause-polled : goal.returns-in-None-clause-polled
returns-in-None-clause-polled g c = passes_none c.loop-item.invariant c.poll_next.ensures.polled (search rules) refl

pub returns-in-Some-call-clause-polled : goal.returns-in-Some-call-clause-polled
returns-in-Some-call-clause-polled g c =
    makes_item c.loop-item.invariant c.in-Some.item c.poll_next.ensures.polled (search rules) (rw (← c.in-Some-call.ensures.output)) c.in-Some-call.ensures.next

pub loop-item-preserved : goal.loop-item-preserved
loop-item-preserved g c =
    drops c.loop-item.invariant c.in-Some.item c.poll_next.ensures.polled (search rules) (rw (← c.in_default.ensures.output)) c.in_default.ensures.next
