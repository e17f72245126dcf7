use Rattle.std.proofs.Common.{◌≡◌, ◌-◌, [], length, take, refl, ap, ◌∙◌, arith}
use Rattle.consume.proofs.Once.{once}
use Rattle.gateway.proofs.Lining.{Lined, lined, lines_left, whole_poll}
use Rattle.gateway.proofs.report.print_polls.Given as given
use Rattle.gateway.proofs.report.print_polls.Goals as goal
use Rattle.gateway.proofs.report.print_polls.Goals.{After-items, After-print}

-- The line of the poll that was made, and the lines after it; and the row keeps its places.
the-poll : (g : given.Over) (c : After-items g) → Lined g.S.Stream c.loop-poll.poll c.items.result.now (lines_left g.S.Stream c.loop-poll.poll c.loop-poll.consumer) (length (g.S.Stream.answers c.loop-poll.consumer.stream)) c.ending-end.result × (length c.run.new.first.row.now ≡ 4)
the-poll g c =
    let l = c.loop-poll in
    let row = l.sink.row.now in
    let p = once _ _ _ _ l.consumer l.sink l.unused c.run.result c.run.new.first c.run.new.second c.run.ensures in
    let empty : take l.sink.len row ≡ [] = ap (λ n. take n row) l.invariant.empty in
    let free : length row - l.sink.len ≡ 4 = omega arith in
    let same : length c.run.new.first.row.now ≡ length row = ap (λ o. o.1) p.first_sink.since.origin in (
      lined g.S.Stream l.poll c.items.result.now _ _ _ c.run.result.end c.ending-end.result (whole_poll _ _ _ l.poll l.consumer.kept (g.S.Stream.answers l.consumer.stream) (take l.sink.len row) (length row - l.sink.len) empty free) p.step c.ending-end.ensures (rw c.items.ensures p.first_sink.holds),
      omega arith,
    )

pub returns-in_default : goal.returns-in_default
returns-in_default g c =
    let line = (the-poll g (goal.at.returns-in_default g c).After-items).0 in
    c.loop-poll.invariant.lines c.print.new.self (rw (line.lines, c.in_default.is) (c.print.new.self, c.print.ensures, refl))

pub loop-poll-preserved : goal.loop-poll-preserved
loop-poll-preserved g c =
    let poll = the-poll g (goal.at.loop-poll-preserved g c).After-items in
    record {
      empty = c.empty.ensures.0;
      places = ap length c.empty.ensures.1 ∙ poll.1;
      polls = omega (arith, rw c.in-Some.is at poll.0.fewer);
      lines = λ p h. c.loop-poll.invariant.lines p (rw (poll.0.lines, c.in-Some.is) (c.print.new.self, c.print.ensures, h));
    }
