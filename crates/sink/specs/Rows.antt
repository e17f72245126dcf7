-- The sink over a lent row.
use Rattle.std.specs.Prelude.{◌≡◌, ℕ, ◌+◌, ◌-◌, List, [], ◌∷◌, ◌++◌, length, take, Ok, Err, Result, slice_set}
use Rattle.std.specs.Borrow.{GName}
use Rattle.sink.specs.declared.refusal.PutRefusal.{PutRefusal}
use Rattle.sink.specs.declared.row.RowSink.{RowSink}

module _ {A : Type 0} where
  -- It holds the first elements of the row, as many as were put;
  abbrev pub row_held : RowSink A → List A
  row_held s = take s.len s.row.now

  -- an item comes behind those that are held;
  abbrev pub row_makes : List A → A → List A
  row_makes h x = h ++ (x ∷ [])

  -- the other elements are places;
  abbrev pub row_left : RowSink A → ℕ
  row_left s = length s.row.now - s.len

  -- and its places are those of the lent row.
  abbrev pub row_origin : RowSink A → GName × ℕ
  row_origin s = (s.row.ghost_name, length s.row.now)

  -- A put writes the one element behind those that are held, or changes nothing.
  abbrev pub RowWritten : RowSink A → A → Result (Unit {0}) (PutRefusal A) → RowSink A → Type 0
  RowWritten s x (Ok u) t = (t.row.now ≡ slice_set s.row.now s.len x) × (t.len ≡ s.len + 1)
  RowWritten s x (Err r) t = t ≡ s
