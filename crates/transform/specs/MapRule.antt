-- Map's rule.
use Rattle.std.specs.Prelude.{List}
use Rattle.stream.specs.Answers.{Answer}
use Rattle.stream.specs.Itemwise.{itemwise}
use Rattle.stream.specs.Itemwise.Made.{item}

-- Each item is replaced by the callback's output; the callback is called once for each item, in order. Waits and Nones pass in their places.
abbrev pub mapped : {F A B : Type 0} → (F → A → B) → (F → A → F) → F → List (Answer A) → List (Answer B)
mapped out next = itemwise (λ f x. item (out f x)) next
