use Rattle.std.proofs.Common.{[], ◌∷◌, Ok, Err, refl}
use Rattle.gateway.specs.Lines.{refused, lines_from}
use Rattle.gateway.specs.Reports.{readings}
use Rattle.gateway.proofs.Reporting.{few_readings}
use Rattle.gateway.proofs.report.report.Goals as goal

pub print_polls-requires : goal.print_polls-requires
print_polls-requires g c =
    let few = few_readings c.in-Ok.high c.in-Ok.low c.in-Ok.ensures.1 c.in-Ok.ensures.2 in
    rw (c.map.ensures.list, c.enumerate.ensures.list, c.zip.ensures.list) few

pub returns-in-Err : goal.returns-in-Err
returns-in-Err g c = (refused c.in-Err.refusal ∷ [], (Err c.in-Err.refusal, c.in-Err.ensures, refl), (c.print.new.self, c.print.ensures, refl))

pub returns-in-Ok : goal.returns-in-Ok
returns-in-Ok g c =
    let high = c.in-Ok.high.left.now in
    let low = c.in-Ok.low.left.now in
    (lines_from 1 [] (readings high low), (Ok (high, low), c.in-Ok.ensures, refl), rw (c.map.ensures.list, c.enumerate.ensures.list, c.zip.ensures.list) at c.print_polls.ensures)
