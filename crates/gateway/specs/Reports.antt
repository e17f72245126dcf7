-- From the bytes of an input to the lines that are printed.
use Rattle.std.specs.Prelude.{◌≡◌, ℕ, List, [], ◌∷◌, ℤ, Ok, Err, Result}
use Rattle.stream.specs.Answers.{Answer}
use Rattle.transform.specs.MapRule.{mapped}
use Rattle.combine.specs.EnumerateRule.{enumerated}
use Rattle.combine.specs.ZipRule.{zipped}
use Rattle.script.specs.Commands.{commands}
use Rattle.reading.specs.declared.fault.Fault.{Fault}
use Rattle.reading.specs.declared.readings.Readings.{Readings}
use Rattle.reading.specs.Words.{reading}
use Rattle.gateway.specs.declared.refusal.InputRefusal.{InputRefusal}
use Rattle.gateway.specs.Inputs.{Opened}
use Rattle.gateway.specs.Lines.{Said, refused, lines_from}

-- The readings of two scripts: the words of their commands paired, numbered and joined.
abbrev pub readings : List ℕ → List ℕ → List (Answer (Result ℤ Fault))
readings high low = mapped (λ (r : Readings) p. reading p.0 p.1.0 p.1.1) (λ r p. r) (record {}) (enumerated 0 (zipped (commands high) (commands low)))

-- The lines of two scripts, the high-word script first, or the one line of a refusal.
abbrev pub lines_of : Result (List ℕ × List ℕ) InputRefusal → List Said
lines_of (Ok s) = lines_from 1 [] (readings s.0 s.1)
lines_of (Err r) = refused r ∷ []

-- The lines that an input gives: those of its two scripts, or of its refusal.
abbrev pub Reports : List ℕ → List Said → Type 0
Reports input ls = (opened : Result (List ℕ × List ℕ) InputRefusal) × Opened (λ s. s) input opened × (ls ≡ lines_of opened)
