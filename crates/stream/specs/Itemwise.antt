-- Adapters that go item by item.
use Rattle.std.specs.Prelude.{Bool, true, false, List, [], ◌∷◌, Some, None, Option}
use Rattle.stream.specs.declared.poll.Poll.TheVariants.{Ready, Pending}
use Rattle.stream.specs.Answers.{Answer}

-- What an adapter makes of one item: an item, None, or nothing, since the item is dropped.
pub data Made (B : Type 0) : Type 0 where
  item : B → Made B
  none : Made B
  dropped : Made B

-- What is made of an item, before the answers that follow.
abbrev pub before : {B : Type 0} → Made B → List (Answer B) → List (Answer B)
before (item b) following = Ready (Some b) ∷ following
before none following = Ready None ∷ following
before dropped following = following

-- Waits and Nones pass in their places. Of each item, in order, is made what `makes` says, by the state that the items before it have left; `next` is the state after it.
abbrev pub itemwise : {F A B : Type 0} → (F → A → Made B) → (F → A → F) → F → List (Answer A) → List (Answer B)
itemwise makes next f [] = []
itemwise makes next f (Pending ∷ xs) = Pending ∷ itemwise makes next f xs
itemwise makes next f (Ready None ∷ xs) = Ready None ∷ itemwise makes next f xs
itemwise makes next f (Ready (Some x) ∷ xs) = before (makes f x) (itemwise makes next (next f x) xs)

-- An item that is kept where b holds, and else dropped.
abbrev pub item_if : {A : Type 0} → Bool → A → Made A
item_if true x = item x
item_if false x = dropped

-- An item that stays where b holds, and else becomes None.
abbrev pub item_or_none : {A : Type 0} → Bool → A → Made A
item_or_none true x = item x
item_or_none false x = none

-- What an option holds; an empty one drops the item.
abbrev pub held_item : {B : Type 0} → Option B → Made B
held_item (Some b) = item b
held_item None = dropped

-- What an option holds; an empty one makes None.
abbrev pub held_or_none : {B : Type 0} → Option B → Made B
held_or_none (Some b) = item b
held_or_none None = none

-- What a state becomes by one answer: an item changes it, and a wait or None does not.
abbrev pub called : {F A : Type 0} → (F → A → F) → F → Answer A → F
called next f Pending = f
called next f (Ready None) = f
called next f (Ready (Some x)) = next f x

-- The choice after an item: to go on where it was dropped, and else to stay here.
abbrev pub on_if_dropped : {B C : Type 0} → Made B → C → C → C
on_if_dropped (item b) here on = here
on_if_dropped none here on = here
on_if_dropped dropped here on = on

-- One poll reads on past the items that are dropped, up to the first answer that is passed on. This is the state and what is left of the list after it.
abbrev pub read_past : {F A B : Type 0} → (F → A → Made B) → (F → A → F) → F → List (Answer A) → F × List (Answer A)
read_past makes next f [] = (f, [])
read_past makes next f (Pending ∷ xs) = (f, xs)
read_past makes next f (Ready None ∷ xs) = (f, xs)
read_past makes next f (Ready (Some x) ∷ xs) = on_if_dropped (makes f x) (next f x, xs) (read_past makes next (next f x) xs)
