-- The lines that are printed.
use Rattle.std.specs.Prelude.{◌≡◌, ℕ, ◌+◌, cond, List, [], ◌∷◌, ◌++◌, length, ℤ, Some, None, Ok, Err, Result, nat_lt}
use Rattle.stream.specs.declared.poll.Poll.TheVariants.{Ready, Pending}
use Rattle.stream.specs.Answers.{Answer}
use Rattle.reading.specs.declared.fault.Fault.{Fault as ReadingFault}
use Rattle.gateway.specs.declared.line.End.{End}
use Rattle.gateway.specs.declared.line.End.TheVariants.{Wait, Full, Done, Fault}
use Rattle.gateway.specs.declared.line.Line.{Line}
use Rattle.gateway.specs.declared.line.Line.TheVariants.{Poll, Refused}
use Rattle.gateway.specs.declared.refusal.InputRefusal.{InputRefusal}

-- What a line says: of a poll its number from 1, how it ended, and the watts that were put in it; or why an input is refused.
pub data Said : Type 0 where
  polled : (poll : ℕ) (end : End) (watts : List ℤ) → Said
  refused : (refusal : InputRefusal) → Said

-- What each case of a line says.
abbrev pub says : Line → Said
says (Poll n e ws) = polled n e ws.now
says (Refused r) = refused r

-- The lines from poll number n on, in which ws have been put so far, for the answers still to come. A wait ends a poll, and
-- so does a reading that finds no place beside four others: it comes first in the next poll. None and a fault end all.
abbrev pub lines_from : ℕ → List ℤ → List (Answer (Result ℤ ReadingFault)) → List Said
lines_from n ws [] = polled n Done ws ∷ []
lines_from n ws (Pending ∷ xs) = polled n Wait ws ∷ lines_from (n + 1) [] xs
lines_from n ws (Ready None ∷ xs) = polled n Done ws ∷ []
lines_from n ws (Ready (Some (Ok w)) ∷ xs) = cond (nat_lt (length ws) 4) (lines_from n (ws ++ (w ∷ [])) xs) (polled n Full ws ∷ lines_from (n + 1) (w ∷ []) xs)
lines_from n ws (Ready (Some (Err f)) ∷ xs) = polled n (Fault f) ws ∷ []

-- Lines printed one after another, from one state of a printer to another.
abbrev pub Printed : {P : Type 0} → (P → Said → P → Type 0) → P → List Said → P → Type 0
Printed prints p [] q = q ≡ p
Printed {P} prints p (l ∷ ls) q = (o : P) × prints p l o × Printed prints o ls q
