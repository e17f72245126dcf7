-- The one refusal of a put.
use Rattle.std.specs.Prelude.{ℕ}
use Rattle.sink.specs.declared.refusal.PutRefusal.{PutRefusal}
use Rattle.sink.specs.declared.refusal.PutRefusal.TheVariants.{Full}

-- Full has the number 5,
abbrev pub number : {A : Type 0} → PutRefusal A → ℕ
number (Full x) = 5

-- and hands back the item that found no place.
abbrev pub item : {A : Type 0} → PutRefusal A → A
item (Full x) = x
