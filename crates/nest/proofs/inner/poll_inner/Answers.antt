use Rattle.std.proofs.Common.{Some, None, rules}
use Rattle.stream.specs.declared.poll.Poll.TheVariants.{Ready, Pending}
use Rattle.nest.proofs.Nesting.{Cleared, inner_answered, inner_gone, not_held, outer_answered, outer_brought}
use Rattle.nest.proofs.inner.poll_inner.Given as given
use Rattle.nest.proofs.inner.poll_inner.Goals as goal
use Rattle.nest.proofs.inner.poll_inner.Goals.{After-poll_next-in-loop-inner_stream, in-Some+in-Ready-ready+in-None+in-Some-1, in-Some+in-Ready-ready+in-None+in-None-1, in_default}

pub returns-in-Some : goal.returns-in-Some
returns-in-Some g c = record { polled = inner_answered c.loop-inner_stream.invariant c.in-Some.is c.poll_next.ensures.polled Pending (search rules) tt }

pub returns-in-Some-ready : goal.returns-in-Some-ready
returns-in-Some-ready g c =
    record { polled = inner_answered c.loop-inner_stream.invariant c.in-Some.is c.poll_next.ensures.polled (Ready (Some c.in-Some-ready.item)) (search rules) tt }

-- where the outer stream is about to be polled, whichever way led there
cleared : (g : given.Over) (c : After-poll_next-in-loop-inner_stream g) → Cleared g.S.Stream g.U.Stream c.args.stream.now c.args.inner_stream.now c.loop-inner_stream.stream c.match-inner_stream.inner_stream
cleared g c =
    elim c.match-inner_stream.branch [
      | in-Some+in-Ready-ready+in-None+in-Some-1 w ↦ inner_gone c.loop-inner_stream.invariant w.in-Some.is w.poll_next.ensures.polled (search rules) w.inner_stream-is
      | in-Some+in-Ready-ready+in-None+in-None-1 w ↦ inner_gone c.loop-inner_stream.invariant w.in-Some.is w.poll_next.ensures.polled (search rules) w.inner_stream-is
      | in_default w ↦ not_held c.loop-inner_stream.invariant w.in_default.is w.inner_stream-is
    ]

pub returns-in-loop-inner_stream : goal.returns-in-loop-inner_stream
returns-in-loop-inner_stream g c =
    record { polled = outer_answered (cleared g (goal.at.returns-in-loop-inner_stream g c).After-poll_next-in-loop-inner_stream) c.poll_next-in-loop-inner_stream.ensures.polled Pending tt (search rules) }

pub returns-in-None-ready : goal.returns-in-None-ready
returns-in-None-ready g c =
    record { polled = outer_answered (cleared g (goal.at.returns-in-None-ready g c).After-poll_next-in-loop-inner_stream) c.poll_next-in-loop-inner_stream.ensures.polled (Ready None) tt (search rules) }

pub loop-inner_stream-preserved : goal.loop-inner_stream-preserved
loop-inner_stream-preserved g c =
    outer_brought (cleared g (goal.at.loop-inner_stream-preserved g c).After-poll_next-in-loop-inner_stream) c.poll_next-in-loop-inner_stream.ensures.polled c.in-Some-ready-2.inner (search rules)
