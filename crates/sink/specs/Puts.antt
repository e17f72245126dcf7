-- What a put does.
use Rattle.std.specs.Prelude.{◌≡◌, ℕ, ◌+◌, ◌<◌, Ok, Err, Result}
use Rattle.sink.specs.declared.refusal.PutRefusal.{PutRefusal}
use Rattle.sink.specs.Refusals.{item}

module _ {X H A : Type 0} (held : X → H) (makes : H → A → H) (left : X → ℕ) where
  -- The sink s had a place, took the item x and became t.
  pub record Taken (s : X) (x : A) (t : X) : Type 0 where
    pub room : 0 < left s
    pub holds : held t ≡ makes (held s) x
    pub fewer : left t + 1 ≡ left s

  -- The sink s had no place, handed the item x back as y, and is unchanged.
  pub record Refused (s : X) (x : A) (y : A) (t : X) : Type 0 where
    pub no_room : left s ≡ 0
    pub back : y ≡ x
    pub unchanged : t ≡ s

  -- What a put of x answers: Ok where it was taken, and else the refusal Full, number 5, with the item.
  abbrev pub Answered : X → A → Result (Unit {0}) (PutRefusal A) → X → Type 0
  Answered s x (Ok u) t = Taken s x t
  Answered s x (Err r) t = Refused s x (item r) t
