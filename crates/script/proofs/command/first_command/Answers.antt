use Rattle.std.proofs.Common.{rules, None}
use Rattle.stream.specs.declared.poll.Poll.TheVariants.{Ready, Pending}
use Rattle.script.specs.Commands.{wait, none}
use Rattle.script.proofs.Firsts.{one_byte, an_item}
use Rattle.script.proofs.command.first_command.Goals as goal

pub returns-in-73 : goal.returns-in-73
returns-in-73 c = an_item c.args.bytes.now _ c.in-73.len_at_least (search rules) c.from_be_bytes-word.ensures

pub returns-in-87 : goal.returns-in-87
returns-in-87 c = one_byte 0x57 Pending (λ s. wait) c.args.bytes.now (search rules) (search rules)

pub returns-in-78 : goal.returns-in-78
returns-in-78 c = one_byte 0x4E (Ready None) (λ s. none) c.args.bytes.now (search rules) (search rules)
