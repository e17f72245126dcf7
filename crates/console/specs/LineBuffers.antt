-- What a line buffer has been given.
use Rattle.std.specs.Prelude.{ℕ, List, Option}
use Rattle.std.specs.Io.KnownBytes.{append_known}
use Rattle.console.specs.declared.line_buffer.LineBuffer.{LineBuffer}

-- The bytes that it keeps.
abbrev pub kept : {W : Type 0} → LineBuffer W → List ℕ
kept b = b.line.items

-- What its writer holds, where that is known, and then what it keeps.
abbrev pub given : {W : Type 0} → (W → Option (List ℕ)) → LineBuffer W → Option (List ℕ)
given contents b = append_known (contents b.writer) (kept b)
