use Rattle.std.proofs.Common.{take}
use Rattle.std.specs.Fmt.{IsPlainFormatter, HasWritten}
use Rattle.gateway.specs.Texts.{spaced}
use Rattle.gateway.proofs.display.WattsDisplay.fmt.Given as goal

-- the watts before the index are written
abbrev pub invariant-loop-watts : goal.invariant-loop-watts
invariant-loop-watts g l = IsPlainFormatter l.initial.f → HasWritten g.W.Write.write_str_gives l.initial.f (spaced (take l.watts-index l.self.0.now)) l.f
