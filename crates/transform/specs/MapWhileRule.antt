-- The rule of MapWhile and of Scan.
use Rattle.std.specs.Prelude.{List, Option}
use Rattle.stream.specs.Answers.{Answer}
use Rattle.stream.specs.Itemwise.{held_or_none, itemwise}

-- Each item becomes what the callback's output holds, or None where it holds nothing; the list goes on after such a None.
abbrev pub mapped_while : {F A B : Type 0} → (F → A → Option B) → (F → A → F) → F → List (Answer A) → List (Answer B)
mapped_while out next = itemwise (λ f x. held_or_none (out f x)) next
