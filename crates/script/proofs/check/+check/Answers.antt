use Rattle.std.proofs.Common.{◌≡◌, [], sym, refl, subst}
use Rattle.script.specs.Commands.{Right, empty}
use Rattle.script.proofs.Checking.{checks_on}
use Rattle.script.proofs.check.+check.Goals as goal

pub returns-in-Ok-None : goal.returns-in-Ok-None
returns-in-Ok-None t c = let at_end : c.args.bytes.now ≡ [] = rw c.in-Ok-None.field-0-is at c.in-Ok-None.ensures in subst Right (sym at_end) ([], empty)

pub returns-in-Ok-Some : goal.returns-in-Ok-Some
returns-in-Ok-Some t c = checks_on (rw c.in-Ok-Some.field-0-is at c.in-Ok-Some.ensures) c.check.result c.check.ensures

pub returns-in-Err : goal.returns-in-Err
returns-in-Err t c = record { before = []; rest = c.args.bytes.now; whole = refl; right = ([], empty); begins = c.in-Err.ensures; here = refl }
