-- How the first command of a row of bytes is read, and the commands after it.
use Rattle.std.specs.Prelude.{◌≡◌, ℕ, List, [], ◌++◌, length, Some, None, Ok, Err, Option, Result}
use Rattle.std.specs.Borrow.{Bor}
use Rattle.stream.specs.Answers.{Answer}
use Rattle.script.specs.declared.refusal.ScriptFault.{ScriptFault}
use Rattle.script.specs.declared.refusal.ScriptFault.TheVariants.{TooLong, UnknownCommand, CutShort}
use Rattle.script.specs.Commands.{Command, Right}
use Rattle.script.specs.Places.{NoCommand, CutItem}

-- Bytes that begin with a fault of a kind. No bytes begin with being too long.
abbrev pub Faulty : ScriptFault → List ℕ → Type 0
Faulty TooLong bytes = ⊥
Faulty UnknownCommand bytes = NoCommand bytes
Faulty CutShort bytes = CutItem bytes

-- Bytes are at their end, or begin with a command, or begin with a fault.
abbrev pub Begins : List ℕ → Result (Option (Answer ℕ × Bor (List ℕ))) ScriptFault → Type 0
Begins bytes (Ok None) = bytes ≡ []
Begins bytes (Ok (Some c)) = Command bytes c.0 c.1.now
Begins bytes (Err fault) = Faulty fault bytes

-- Bytes are a right script, and then, of so many bytes, a rest that begins with a fault.
pub record FaultAfter (bytes : List ℕ) (fault : ScriptFault) (left : ℕ) : Type 0 where
  pub before : List ℕ
  pub rest : List ℕ
  pub whole : bytes ≡ before ++ rest
  pub right : Right before
  pub begins : Faulty fault rest
  pub here : left ≡ length rest

-- Bytes are a right script, or a right script and then a fault.
abbrev pub Checks : List ℕ → Result (Unit {0}) (ScriptFault × ℕ) → Type 0
Checks bytes (Ok u) = Right bytes
Checks bytes (Err e) = FaultAfter bytes e.0 e.1
