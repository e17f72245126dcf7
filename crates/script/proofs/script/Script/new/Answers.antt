use Rattle.std.proofs.Common.{Err, refl, ◌∙◌, arith, rules}
use Rattle.script.specs.Commands.{Right}
use Rattle.script.specs.Checks.{Checked}
use Rattle.script.proofs.Answering.{says}
use Rattle.script.proofs.Placing.{by_fault, no_fault, checked}
use Rattle.script.proofs.script.Script.new.Goals as goal

pub returns-in_err-map_err : goal.returns-in_err-map_err
returns-in_err-map_err c =
    let h = checked c.args.bytes.now (omega arith) c.args.number c.check.result c.check.ensures c.map_err.result (search rules) in
    let k : Checked c.args.number c.args.bytes.now (Err c.in_err-map_err.field-0.0) = rw c.in_err-map_err.was at h in
    search (rules, k)

pub invariant_of-result : goal.invariant_of-result
invariant_of-result c =
    let h = checked c.args.bytes.now (omega arith) c.args.number c.check.result c.check.ensures c.map_err.result (search rules) in
    let right : Right c.args.bytes.now = rw c.in_ok-map_err.was at h in
    record { right = says right }

pub returns : goal.returns
returns c =
    let h = checked c.args.bytes.now (omega arith) c.args.number c.check.result c.check.ensures c.map_err.result (search rules) in
    let right : Right c.args.bytes.now = rw c.in_ok-map_err.was at h in
    (by_fault c.args.bytes.now (omega arith) c.args.number ∙ no_fault c.args.number right, refl, says right)
