-- One poll of a Fuse that is not done.
use Rattle.std.proofs.Common.{◌≡◌, Bool, true, false, List, [], ◌∷◌, Some, None, sym, refl, subst₂, arith}
use Rattle.stream.specs.declared.poll.Poll.TheVariants.{Ready, Pending}
use Rattle.stream.specs.declared.stream.Stream.{Ghosts as Streams}
use Rattle.stream.specs.Answers.{Answer, first}
use Rattle.stream.specs.Pipelines.{Polled}
use Rattle.stream.proofs.Cases.{never}
use Rattle.limit.specs.declared.fuse.Fuse.{Fuse}
use Rattle.limit.specs.FuseRule.{done_by, fused_unless}
use Rattle.limit.specs.FusePipeline.{fuse_answers, fuse_pipeline}
use Rattle.limit.specs.FusePipeline.FuseTook.{polled_once}

-- a list that ends at its first None has ended where its first answer is None
pub fused_ends : {A : Type 0} (b : Bool) (xs : List (Answer A)) → Ready None ≡ first (fused_unless b xs) → fused_unless b xs ≡ []
fused_ends true xs e = refl
fused_ends false [] e = refl
fused_ends false (Pending ∷ xs) e = never (cc)
fused_ends false (Ready None ∷ xs) e = refl
fused_ends false (Ready (Some x) ∷ xs) e = never (cc)

pub fuse_polled : {S A : Type 0} {below : Streams S A} {m n : Fuse S} {s : S} {r q : Answer A} → m.done ≡ false → Polled below.answers below.pipeline m.stream q s → q ≡ r → n.stream ≡ s → n.done ≡ done_by r → Polled (fuse_answers below) (fuse_pipeline below) m r n
fuse_polled {below = below} {m = m} {n = n} {r = r} open-yet p e t d =
    let o : Polled below.answers below.pipeline m.stream r n.stream = subst₂ (Polled below.answers below.pipeline m.stream) e (sym t) p in
    record { answer = grind arith; after = grind arith; took = polled_once r open-yet o d refl }
