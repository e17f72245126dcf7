-- Fuse's rule.
use Rattle.std.specs.Prelude.{Bool, true, false, List, [], Some, None}
use Rattle.stream.specs.declared.poll.Poll.TheVariants.{Ready, Pending}
use Rattle.stream.specs.Answers.{Answer}
use Rattle.stream.specs.Nones.{before_none}

-- The list ends at its first None.
abbrev pub fused : {A : Type 0} → List (Answer A) → List (Answer A)
fused xs = before_none xs []

-- Once it is done, it has nothing more to give.
abbrev pub fused_unless : {A : Type 0} → Bool → List (Answer A) → List (Answer A)
fused_unless true xs = []
fused_unless false xs = fused xs

-- It is done after an answer that is None.
abbrev pub done_by : {A : Type 0} → Answer A → Bool
done_by Pending = false
done_by (Ready None) = true
done_by (Ready (Some x)) = false
