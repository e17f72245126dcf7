-- One poll of a Take that may still pass on items.
use Rattle.std.proofs.Common.{◌≡◌, ◌<◌, sym, refl, subst₂, arith}
use Rattle.stream.specs.declared.stream.Stream.{Ghosts as Streams}
use Rattle.stream.specs.Answers.{Answer}
use Rattle.stream.specs.Pipelines.{Polled}
use Rattle.limit.specs.declared.take.Take.{Take}
use Rattle.limit.specs.TakeRule.{left_by}
use Rattle.limit.specs.TakePipeline.{take_answers, take_pipeline}
use Rattle.limit.specs.TakePipeline.TakeTook.{polled_once}

pub take_polled : {S A : Type 0} {below : Streams S A} {m n : Take S} {s : S} {r q : Answer A} → 0 < m.n → Polled below.answers below.pipeline m.stream q s → q ≡ r → n.stream ≡ s → n.n ≡ left_by m.n r → Polled (take_answers below) (take_pipeline below) m r n
take_polled {below = below} {m = m} {n = n} {r = r} some p e t l =
    let o : Polled below.answers below.pipeline m.stream r n.stream = subst₂ (Polled below.answers below.pipeline m.stream) e (sym t) p in
    record { answer = grind arith; after = grind arith; took = polled_once r some o l refl }
