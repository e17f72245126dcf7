-- What becomes of a result that is offered to a sink.
use Rattle.std.specs.Prelude.{◌≡◌, Ok, Err, Result}
use Rattle.sink.specs.declared.refusal.PutRefusal.{PutRefusal}
use Rattle.sink.specs.declared.sink.Sink.{Ghosts as Sinks}
use Rattle.sink.specs.Puts.{Answered}

-- A good item is put, and the put's answer comes back; a fault comes back as it is, and the sink is unchanged.
abbrev pub Offered : {X A E : Type 0} (F : Sinks X A) → X → Result A E → Result (Result (Unit {0}) (PutRefusal A)) E → X → Type 0
Offered F s (Ok x) (Ok r) t = Answered F.held F.makes F.left s x r t
Offered F s (Ok x) (Err e) t = ⊥
Offered F s (Err e) (Ok r) t = ⊥
Offered F s (Err e) (Err d) t = (d ≡ e) × (t ≡ s)
