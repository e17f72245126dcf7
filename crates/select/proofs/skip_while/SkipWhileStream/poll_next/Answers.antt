use Rattle.std.proofs.Common.{Some, refl, ap}
use Rattle.stream.proofs.Reading.{begun, drops, makes_item, passes_none, waits}
use Rattle.select.proofs.skip_while.SkipWhileStream.poll_next.Goals as goal

pub loop-item-init : goal.loop-item-init
loop-item-init g c = begun

pub returns-in-loop-item-clause-polled : goal.returns-in-loop-item-clause-polled
returns-in-loop-item-clause-polled g c = waits c.loop-item.invariant c.poll_next.ensures.polled (cc) refl

pub returns-in-None-clause-polled : goal.returns-in-None-clause-polled
returns-in-None-clause-polled g c = passes_none c.loop-item.invariant c.poll_next.ensures.polled (cc) refl

pub returns-then-not-call-clause-polled : goal.returns-then-not-call-clause-polled
returns-then-not-call-clause-polled g c =
    makes_item c.loop-item.invariant c.in-Some.item c.poll_next.ensures.polled (cc) (rw (c.in-Some-predicate.is, ← c.call.ensures.output, c.if-not-call.true)) (rw (c.in-Some-predicate.is, ← c.call.ensures.output, c.if-not-call.true))

pub returns-in-None-predicate-clause-polled : goal.returns-in-None-predicate-clause-polled
returns-in-None-predicate-clause-polled g c =
    makes_item c.loop-item.invariant c.in-Some.item c.poll_next.ensures.polled (cc) (rw c.in-None-predicate.is) (rw c.in-None-predicate.is)

pub loop-item-preserved : goal.loop-item-preserved
loop-item-preserved g c =
    drops c.loop-item.invariant c.in-Some.item c.poll_next.ensures.polled (cc) (rw (c.in-Some-predicate.is, ← c.call.ensures.output, c.if-not-call.false)) (rw (c.in-Some-predicate.is, ← c.call.ensures.output, c.if-not-call.false) (ap Some c.call.ensures.next))
