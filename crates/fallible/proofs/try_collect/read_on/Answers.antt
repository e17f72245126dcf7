use Rattle.std.proofs.Common.{refl}
use Rattle.consume.proofs.Polling.{begun, waited, finished}
use Rattle.fallible.proofs.Offering.{taken, refused, broke}
use Rattle.fallible.proofs.try_collect.read_on.Goals as goal

pub loop-stream-init : goal.loop-stream-init
loop-stream-init g c = begun refl

pub returns-in-Pending : goal.returns-in-Pending
returns-in-Pending g c = waited c.loop-stream.invariant c.in-Pending.ensures.polled refl refl refl

pub returns-in-Ready-None : goal.returns-in-Ready-None
returns-in-Ready-None g c = finished c.loop-stream.invariant (rw c.in-Ready-None.field-0-is at c.in-Ready-None.ensures.polled) tt

pub loop-stream-preserved : goal.loop-stream-preserved
loop-stream-preserved g c =
    let p = rw c.in-Ready-Some.field-0-is at c.in-Ready-Some.ensures.polled in
    taken _ c.loop-stream.invariant p (rw c.in-Ok-Ok.field-0-is at c.in-Ok-Ok.ensures.offered) c.offer.ensures.origin

pub returns-in-Ok-Err : goal.returns-in-Ok-Err
returns-in-Ok-Err g c =
    let p = rw c.in-Ready-Some.field-0-is at c.in-Ready-Some.ensures.polled in
    refused _ _ c.loop-stream.invariant p (rw c.in-Ok-Err.field-0-is at c.in-Ok-Err.ensures.offered) c.keeping.ensures.0 c.keeping.ensures.1

pub returns-in-Err : goal.returns-in-Err
returns-in-Err g c =
    let p = rw c.in-Ready-Some.field-0-is at c.in-Ready-Some.ensures.polled in
    broke _ c.loop-stream.invariant p c.in-Err.ensures.offered
