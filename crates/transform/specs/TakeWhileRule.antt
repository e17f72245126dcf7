-- TakeWhile's rule.
use Rattle.std.specs.Prelude.{Bool, List}
use Rattle.stream.specs.Answers.{Answer}
use Rattle.stream.specs.Itemwise.{item_or_none, itemwise}

-- Each item stays if the callback says yes to it, and else becomes None; the list goes on after such a None.
abbrev pub taken_while : {F A : Type 0} → (F → A → Bool) → (F → A → F) → F → List (Answer A) → List (Answer A)
taken_while out next = itemwise (λ f x. item_or_none (out f x) x) next
