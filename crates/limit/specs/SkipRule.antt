-- Skip's rule.
use Rattle.std.specs.Prelude.{ℕ, zero, suc, List}
use Rattle.stream.specs.Answers.{Answer}
use Rattle.stream.specs.Itemwise.{Made, itemwise}
use Rattle.stream.specs.Itemwise.Made.{item, dropped}

-- While items are still to be dropped, an item is; after that, it is kept.
abbrev pub skips : {A : Type 0} → ℕ → A → Made A
skips zero x = item x
skips (suc n) x = dropped

-- After an item there is one less to drop, if any.
abbrev pub fewer : {A : Type 0} → ℕ → A → ℕ
fewer zero x = zero
fewer (suc n) x = n

-- A list without its first n items. Nones are not counted.
abbrev pub skipped : {A : Type 0} → ℕ → List (Answer A) → List (Answer A)
skipped = itemwise skips fewer
