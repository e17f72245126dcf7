-- Lines that a printer of text wrote one after another.
use Rattle.std.proofs.Common.{ℕ, List, [], ◌∷◌, subst}
use Rattle.std.proofs.Output.{writes_in_calls_append, writes_in_calls_nil}
use Rattle.std.specs.Result.{IsOk}
use Rattle.std.specs.Fmt.{WritesInCalls}
use Rattle.gateway.specs.declared.printer.TextPrinter.{TextPrinter}
use Rattle.gateway.specs.Lines.{Said, Printed}
use Rattle.gateway.specs.Prints.{PrintsText}
use Rattle.gateway.specs.Texts.{lines_text}

module _ {W : Type 0} (took : W → List ℕ → W → Type 0) where
  -- where all is well after the lines, all was well before, and their texts were written and nothing else
  pub lines_put : (ls : List Said) (p q : TextPrinter W) → Printed (PrintsText took) p ls q → IsOk q.written → IsOk p.written × WritesInCalls took p.text (lines_text ls) q.text
  lines_put [] p q h ok = subst (λ (r : TextPrinter W). IsOk r.written × WritesInCalls took r.text [] q.text) h (ok, writes_in_calls_nil took q.text)
  lines_put (l ∷ ls) p q h ok =
      let later = lines_put ls h.0 q h.2 ok in
      let one = h.1.0 later.0 in
      (one.0, writes_in_calls_append took p.text _ h.0.text _ q.text one.1 later.1)
