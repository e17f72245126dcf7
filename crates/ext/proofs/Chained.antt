-- A Chain over two streams that have not answered None yet.
use Rattle.std.proofs.Common.{◌≡◌, List, [], ◌∷◌, Some, None, refl, ap}
use Rattle.stream.specs.declared.poll.Poll.TheVariants.{Ready, Pending}
use Rattle.stream.specs.Answers.{Answer}
use Rattle.stream.specs.Nones.{before_none}
use Rattle.limit.specs.FuseRule.{fused}

-- to end a list at its first None twice is to do it once
pub fused_once : {A : Type 0} (xs k : List (Answer A)) → before_none (fused xs) k ≡ before_none xs k
fused_once [] k = refl
fused_once (Pending ∷ xs) k = ap (λ r. Pending ∷ r) (fused_once xs k)
fused_once (Ready None ∷ xs) k = refl
fused_once (Ready (Some x) ∷ xs) k = ap (λ r. Ready (Some x) ∷ r) (fused_once xs k)
