-- Filter's rule.
use Rattle.std.specs.Prelude.{Bool, List}
use Rattle.stream.specs.Answers.{Answer}
use Rattle.stream.specs.Itemwise.{Made, item_if, itemwise}

-- An item is kept if the callback says yes to it, and else dropped.
abbrev pub filters : {F A : Type 0} → (F → A → Bool) → F → A → Made A
filters out f x = item_if (out f x) x

-- So for each item of a list.
abbrev pub filtered : {F A : Type 0} → (F → A → Bool) → (F → A → F) → F → List (Answer A) → List (Answer A)
filtered out next = itemwise (filters out) next
