-- The one refusal of a StepBy.
use Rattle.std.specs.Prelude.{ℕ}
use Rattle.limit.specs.declared.refusal.StepRefusal.{StepRefusal}
use Rattle.limit.specs.declared.refusal.StepRefusal.TheVariants.{ZeroStep}

-- A step of 0 has the number 1,
abbrev pub number : {S : Type 0} → StepRefusal S → ℕ
number (ZeroStep s) = 1

-- and hands back the stream.
abbrev pub stream_of : {S : Type 0} → StepRefusal S → S
stream_of (ZeroStep s) = s
