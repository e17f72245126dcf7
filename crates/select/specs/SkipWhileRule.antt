-- SkipWhile's rule.
use Rattle.std.specs.Prelude.{Bool, true, false, not, List, Some, None, Option}
use Rattle.stream.specs.Answers.{Answer}
use Rattle.stream.specs.Itemwise.{Made, item_if, itemwise}
use Rattle.stream.specs.Itemwise.Made.{item}

-- While the callback is there, an item is dropped if it says yes; once it is gone, each item is kept.
abbrev pub skips_while : {F A : Type 0} → (F → A → Bool) → Option F → A → Made A
skips_while out (Some f) x = item_if (not (out f x)) x
skips_while out None x = item x

-- A callback that has said yes stays; one that says no is let go.
abbrev pub stays_if : {F : Type 0} → Bool → F → Option F
stays_if true f = Some f
stays_if false f = None

-- The callback after an item: called with it while it is there, and never again once it has said no.
abbrev pub let_go : {F A : Type 0} → (F → A → Bool) → (F → A → F) → Option F → A → Option F
let_go out next (Some f) x = stays_if (out f x) (next f x)
let_go out next None x = None

-- A list without its items up to the first on which the callback says no.
abbrev pub skipped_while : {F A : Type 0} → (F → A → Bool) → (F → A → F) → Option F → List (Answer A) → List (Answer A)
skipped_while out next = itemwise (skips_while out) (let_go out next)
