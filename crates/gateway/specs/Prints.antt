-- What a printer of text writes.
use Rattle.std.specs.Prelude.{◌≡◌, ℕ, false, List, is_ok, IsOk}
use Rattle.std.specs.Fmt.{WritesInCalls}
use Rattle.gateway.specs.declared.printer.TextPrinter.{TextPrinter}
use Rattle.gateway.specs.Lines.{Said}
use Rattle.gateway.specs.Texts.{line_text}

-- Where all is well after a line, all was well before it, and the line's text was written and nothing else. After a failure
-- nothing changes.
abbrev pub PrintsText : {W : Type 0} → (W → List ℕ → W → Type 0) → TextPrinter W → Said → TextPrinter W → Type 0
PrintsText took p l q = (IsOk q.written → IsOk p.written × WritesInCalls took p.text (line_text l) q.text) × (is_ok p.written ≡ false → q ≡ p)
