-- FilterMap's rule.
use Rattle.std.specs.Prelude.{List, Option}
use Rattle.stream.specs.Answers.{Answer}
use Rattle.stream.specs.Itemwise.{Made, held_item, itemwise}

-- An item becomes what the callback's output holds, and is dropped where it holds nothing.
abbrev pub filter_maps : {F A B : Type 0} → (F → A → Option B) → F → A → Made B
filter_maps out f x = held_item (out f x)

-- So for each item of a list.
abbrev pub filter_mapped : {F A B : Type 0} → (F → A → Option B) → (F → A → F) → F → List (Answer A) → List (Answer B)
filter_mapped out next = itemwise (filter_maps out) next
