use Rattle.std.proofs.Common.{◌≡◌, ◌+◌, ◌≤◌, [], length}
use Rattle.gateway.specs.Lines.{lines_from, Printed}
use Rattle.gateway.proofs.Lining.{lines_left}
use Rattle.gateway.proofs.report.print_polls.Given as goal

-- With the row empty, the lines still to print are those of what the consumer has still to do; and the polls so far are no
-- more than the answers that are gone.
abbrev pub invariant-loop-poll : goal.invariant-loop-poll
invariant-loop-poll g l = record {
  empty : l.sink.len ≡ 0;
  places : length l.sink.row.now ≡ 4;
  polls : l.poll + length (g.S.Stream.answers l.consumer.stream) ≤ 1 + length (g.S.Stream.answers l.fn.stream);
  lines : (p : g.row.P.Denot) → Printed g.P.Printer.prints l.printer (lines_left g.S.Stream l.poll l.consumer) p → Printed g.P.Printer.prints l.initial.printer (lines_from 1 [] (g.S.Stream.answers l.fn.stream)) p;
}
