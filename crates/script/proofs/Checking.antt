-- The check of bytes, by how they begin.
use Rattle.std.proofs.Common.{ℕ, List, [], ◌∷◌, ◌++◌, Ok, Err, Result, sym, ap, ◌∙◌, append_assoc}
use Rattle.stream.specs.Answers.{Answer}
use Rattle.script.specs.declared.refusal.ScriptFault.{ScriptFault}
use Rattle.script.specs.Commands.{Command, wait, none, item, Right, next}
use Rattle.script.specs.Beginnings.{Checks, FaultAfter}

-- a command in front of a right script and a fault
after : (c t : List ℕ) (f : ScriptFault) (n : ℕ) → ((b : List ℕ) → Right b → Right (c ++ b)) → FaultAfter t f n → FaultAfter (c ++ t) f n
after c t f n h w = record {
  before = c ++ w.before;
  rest = w.rest;
  whole = ap (λ z. c ++ z) w.whole ∙ sym (append_assoc c w.before w.rest);
  right = h w.before w.right;
  begins = w.begins;
  here = w.here;
}

-- a command in front of what has been checked
pub checks_on : {s t : List ℕ} {a : Answer ℕ} → Command s a t → (r : Result (Unit {0}) (ScriptFault × ℕ)) → Checks t r → Checks s r
checks_on c (Ok u) w = (_, next c w.1)
checks_on {t = t} wait (Err e) w = after (0x57 ∷ []) t e.0 e.1 (λ b r. (_, next wait r.1)) w
checks_on {t = t} none (Err e) w = after (0x4E ∷ []) t e.0 e.1 (λ b r. (_, next none r.1)) w
checks_on {t = t} (item {high = high} {low = low} i) (Err e) w = after (0x49 ∷ high ∷ low ∷ []) t e.0 e.1 (λ b r. (_, next (item i) r.1)) w
