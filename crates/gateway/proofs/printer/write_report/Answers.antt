use Rattle.gateway.proofs.Printing.{lines_put}
use Rattle.gateway.proofs.printer.write_report.Goals as goal

pub returns : goal.returns
returns g c ok =
    let all = lines_put g.W.Write.write_str_gives c.report.ensures.0 c.new-printer.result c.report.new.printer c.report.ensures.2 (rw (← c.finish.ensures.written) ok) in
    (c.report.ensures.0, c.report.ensures.1, rw (← c.new-printer.ensures.text, c.finish.ensures.text) all.1)
