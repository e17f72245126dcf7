-- Which rows of bytes are taken for scripts, and how the others are refused.
use Rattle.std.specs.Prelude.{◌≡◌, ℕ, ◌+◌, ◌<◌, cond, List, [], ◌∷◌, length, Some, None, Ok, Err, Option, Result, nat_lt}
use Rattle.script.specs.declared.refusal.ScriptFault.TheVariants.{TooLong, UnknownCommand, CutShort}
use Rattle.script.specs.declared.refusal.ScriptRefusal.{ScriptRefusal}
use Rattle.script.specs.declared.script.Script.{Script}
use Rattle.script.specs.Commands.{by_command, Right, StandsFor}
use Rattle.script.specs.Places.{RefusedRightly}
use Rattle.script.specs.Sources.{script_answers}

abbrev mutual
  -- The first fault of script n in the bytes that stand at a place and after it: a byte that is no command, or an `I` with fewer than two bytes after it.
  pub fault_from : ℕ → ℕ → List ℕ → Option ScriptRefusal
  fault_from n place [] = None
  fault_from n place (byte ∷ s) =
      by_command byte (fault_from n (place + 1) s) (fault_from n (place + 1) s) (item_fault n place s) (Some (record { fault = UnknownCommand; script = n; place = place }))

  -- From after an `I` at the place.
  pub item_fault : ℕ → ℕ → List ℕ → Option ScriptRefusal
  item_fault n place [] = Some (record { fault = CutShort; script = n; place = place })
  item_fault n place (high ∷ s) = word_fault n place s

  -- From after an `I` at the place and one more byte.
  pub word_fault : ℕ → ℕ → List ℕ → Option ScriptRefusal
  word_fault n place [] = Some (record { fault = CutShort; script = n; place = place })
  word_fault n place (low ∷ s) = fault_from n (place + 3) s

-- How script n is refused, if it is: for more than 4,096 bytes, else for its first fault.
abbrev pub refusal : ℕ → List ℕ → Option ScriptRefusal
refusal n bytes = cond (nat_lt 4096 (length bytes)) (Some (record { fault = TooLong; script = n; place = 4096 })) (fault_from n 0 bytes)

-- What is made of the bytes of script n: where they are refused, exactly that refusal, which is right in its number and its place, and they are too long or not right; else a source that has all of them left, and they are a right script that stands for the source's answers.
abbrev pub Checked : ℕ → List ℕ → Result Script ScriptRefusal → Type 0
Checked n bytes (Ok s) = (refusal n bytes ≡ None) × (s.left.now ≡ bytes) × StandsFor bytes (script_answers s)
Checked n bytes (Err e) = (refusal n bytes ≡ Some e) × (Right bytes → 4096 < length bytes) × RefusedRightly n bytes e
