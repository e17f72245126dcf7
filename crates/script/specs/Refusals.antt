-- What a refusal tells.
use Rattle.std.specs.Prelude.{ℕ}
use Rattle.script.specs.declared.refusal.ScriptFault.{ScriptFault}
use Rattle.script.specs.declared.refusal.ScriptFault.TheVariants.{TooLong, UnknownCommand, CutShort}
use Rattle.script.specs.declared.refusal.ScriptRefusal.{ScriptRefusal}

-- A refusal tells its number, the number of the script, and an offset from 0.
pub record Told : Type 0 where
  pub number : ℕ
  pub script : ℕ
  pub place : ℕ

-- The number of each fault.
abbrev pub number_of : ScriptFault → ℕ
number_of TooLong = 2
number_of UnknownCommand = 3
number_of CutShort = 4

-- A refusal tells the number of its fault; the script and the place are its own.
abbrev pub told : ScriptRefusal → Told
told e = record { number = number_of e.fault; script = e.script; place = e.place }
