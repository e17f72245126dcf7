-- Where a script is refused, in the words of scripts.
use Rattle.std.specs.Prelude.{◌≡◌, ℕ, ◌<◌, ◌≤◌, ◌⊎◌, List, [], ◌∷◌, ◌++◌, length, ◌≢◌}
use Rattle.script.specs.declared.refusal.ScriptFault.{ScriptFault}
use Rattle.script.specs.declared.refusal.ScriptFault.TheVariants.{TooLong, UnknownCommand, CutShort}
use Rattle.script.specs.declared.refusal.ScriptRefusal.{ScriptRefusal}
use Rattle.script.specs.Commands.{Right}

-- Bytes that begin with one that is no command: none of `W`, `N` and `I`.
abbrev pub NoCommand : List ℕ → Type 0
NoCommand [] = ⊥
NoCommand (byte ∷ s) = (byte ≢ 0x57) × (byte ≢ 0x4E) × (byte ≢ 0x49)

-- Bytes that are an `I` and fewer than two bytes after it.
abbrev pub CutItem : List ℕ → Type 0
CutItem [] = ⊥
CutItem (byte ∷ s) = (byte ≡ 0x49) × (length s < 2)

-- A fault of a kind stands at a place of bytes:
pub record FaultAt (Kind : List ℕ → Type 0) (bytes : List ℕ) (place : ℕ) : Type 0 where
  -- the bytes are those before it and the rest;
  pub before : List ℕ
  pub rest : List ℕ
  pub whole : bytes ≡ before ++ rest
  -- those before it are a right script;
  pub right : Right before
  -- the place is the length of that script;
  pub here : place ≡ length before
  -- the rest begins with the fault;
  pub fault : Kind rest
  -- no other place has a fault, of either kind, after a right script: none is earlier;
  pub only : (b r : List ℕ) → bytes ≡ b ++ r → Right b → NoCommand r ⊎ CutItem r → length b ≡ place
  -- and the bytes are not too long.
  pub short : length bytes ≤ 4096

-- A fault of these bytes is for more than 4,096 of them, at the place 4,096, or it stands at its place.
abbrev pub FaultRightly : List ℕ → ℕ → ScriptFault → Type 0
FaultRightly bytes place TooLong = (4096 < length bytes) × (place ≡ 4096)
FaultRightly bytes place UnknownCommand = FaultAt NoCommand bytes place
FaultRightly bytes place CutShort = FaultAt CutItem bytes place

-- A refusal carries the number of the script as it was given, and a fault of its bytes.
abbrev pub RefusedRightly : ℕ → List ℕ → ScriptRefusal → Type 0
RefusedRightly n bytes e = (e.script ≡ n) × FaultRightly bytes e.place e.fault
