-- Lemmas that fill ghost members: adapters that go item by item keep agreement.
use Rattle.std.specs.Prelude.{◌≡◌, ℕ, Bool, true, false, List, [], ◌∷◌, Some, None, Option, refl}
use Rattle.std.proofs.Common.{ap, sym, subst, subst₂, arith}
use Rattle.stream.specs.declared.poll.Poll.TheVariants.{Ready, Pending}
use Rattle.stream.specs.Answers.{Answer, Agree, Matching, Pairwise, settled}
use Rattle.stream.specs.Itemwise.{Made, before, held_item, held_or_none, item_if, item_or_none, itemwise}
use Rattle.stream.specs.Itemwise.Made.{item, none, dropped}

-- `before` without waits
abbrev dry_before : {B : Type 0} → Made B → List (Option B) → List (Option B)
dry_before (item b) k = Some b ∷ k
dry_before none k = None ∷ k
dry_before dropped k = k

-- `itemwise` without waits
abbrev dry : {F A B : Type 0} → (F → A → Made B) → (F → A → F) → F → List (Option A) → List (Option B)
dry makes next f [] = []
dry makes next f (None ∷ xs) = None ∷ dry makes next f xs
dry makes next f (Some x ∷ xs) = dry_before (makes f x) (dry makes next (next f x) xs)

settled_before : {B : Type 0} (m : Made B) (k : List (Answer B)) (l : List (Option B)) → settled k ≡ l → settled (before m k) ≡ dry_before m l
settled_before (item b) k l e = ap (λ r. Some b ∷ r) e
settled_before none k l e = ap (λ r. None ∷ r) e
settled_before dropped k l e = e

settled_itemwise : {F A B : Type 0} (makes : F → A → Made B) (next : F → A → F) (f : F) (xs : List (Answer A)) → settled (itemwise makes next f xs) ≡ dry makes next f (settled xs)
settled_itemwise makes next f [] = refl
settled_itemwise makes next f (Pending ∷ xs) = settled_itemwise makes next f xs
settled_itemwise makes next f (Ready None ∷ xs) = ap (λ r. None ∷ r) (settled_itemwise makes next f xs)
settled_itemwise makes next f (Ready (Some x) ∷ xs) = settled_before (makes f x) _ _ (settled_itemwise makes next (next f x) xs)

-- the same was made of two items, or two that match
abbrev pub Making : {B D : Type 0} → (B → D → Type 0) → Made B → Made D → Type 0
Making Q (item b) (item d) = Q b d
Making Q (item b) none = ⊥
Making Q (item b) dropped = ⊥
Making Q none (item d) = ⊥
Making Q none none = Unit {0}
Making Q none dropped = ⊥
Making Q dropped (item d) = ⊥
Making Q dropped none = ⊥
Making Q dropped dropped = Unit {0}

-- states are matched by `Held`, and stay matched while the items match
module _ {F G A B C D : Type 0} (R : A → C → Type 0) (Q : B → D → Type 0) (Held : F → G → Type 0) (makes : F → A → Made B) (next : F → A → F) (makes' : G → C → Made D) (next' : G → C → G) (step : (f : F) (g : G) (a : A) (c : C) → Held f g → R a c → Making Q (makes f a) (makes' g c) × Held (next f a) (next' g c)) where
  before_agree : (m : Made B) (n : Made D) (xs : List (Option B)) (ys : List (Option D)) → Making Q m n → Pairwise Q xs ys → Pairwise Q (dry_before m xs) (dry_before n ys)
  before_agree (item b) (item d) xs ys h k = (h, k)
  before_agree (item b) none xs ys h k = absurd h
  before_agree (item b) dropped xs ys h k = absurd h
  before_agree none (item d) xs ys h k = absurd h
  before_agree none none xs ys h k = (tt, k)
  before_agree none dropped xs ys h k = absurd h
  before_agree dropped (item d) xs ys h k = absurd h
  before_agree dropped none xs ys h k = absurd h
  before_agree dropped dropped xs ys h k = k

  dry_agree : (f : F) (g : G) (xs : List (Option A)) (ys : List (Option C)) → Held f g → Pairwise R xs ys → Pairwise Q (dry makes next f xs) (dry makes' next' g ys)
  dry_agree f g [] [] m h = tt
  dry_agree f g [] (None ∷ ys) m h = (tt, dry_agree f g [] ys m h.1)
  dry_agree f g [] (Some y ∷ ys) m h = absurd h.0
  dry_agree f g (None ∷ xs) [] m h = (tt, dry_agree f g xs [] m h.1)
  dry_agree f g (Some x ∷ xs) [] m h = absurd h.0
  dry_agree f g (None ∷ xs) (None ∷ ys) m h = (tt, dry_agree f g xs ys m h.1)
  dry_agree f g (None ∷ xs) (Some y ∷ ys) m h = absurd h.0
  dry_agree f g (Some x ∷ xs) (None ∷ ys) m h = absurd h.0
  dry_agree f g (Some x ∷ xs) (Some y ∷ ys) m h =
      let s = step f g x y m h.0 in
      before_agree (makes f x) (makes' g y) (dry makes next (next f x) xs) (dry makes' next' (next' g y) ys) s.0 (dry_agree (next f x) (next' g y) xs ys s.1 h.1)

  pub itemwise_agree : (f : F) (g : G) (xs : List (Answer A)) (ys : List (Answer C)) (zs : List (Answer D)) → Held f g → Agree R xs ys → zs ≡ itemwise makes' next' g ys → Agree Q (itemwise makes next f xs) zs
  itemwise_agree f g xs ys zs m h e =
      subst (Agree Q (itemwise makes next f xs)) (sym e)
      (subst₂ (Pairwise Q) (sym (settled_itemwise makes next f xs)) (sym (settled_itemwise makes' next' g ys)) (dry_agree f g (settled xs) (settled ys) m h))

-- what is made of equal flags and matching options matches
module _ {A C : Type 0} (R : A → C → Type 0) where
  untrue : true ≡ false → ⊥
  untrue e = let z : ◌≡◌ {A = ℕ} 0 1 = cc in omega arith

  pub item_if_agree : (b d : Bool) (a : A) (c : C) → b ≡ d → R a c → Making R (item_if b a) (item_if d c)
  item_if_agree true true a c e r = r
  item_if_agree true false a c e r = absurd (untrue e)
  item_if_agree false true a c e r = absurd (untrue (sym e))
  item_if_agree false false a c e r = tt

  pub item_or_none_agree : (b d : Bool) (a : A) (c : C) → b ≡ d → R a c → Making R (item_or_none b a) (item_or_none d c)
  item_or_none_agree true true a c e r = r
  item_or_none_agree true false a c e r = absurd (untrue e)
  item_or_none_agree false true a c e r = absurd (untrue (sym e))
  item_or_none_agree false false a c e r = tt

  pub held_item_agree : (o : Option A) (p : Option C) → Matching R o p → Making R (held_item o) (held_item p)
  held_item_agree None None h = tt
  held_item_agree None (Some c) h = absurd h
  held_item_agree (Some a) None h = absurd h
  held_item_agree (Some a) (Some c) h = h

  pub held_or_none_agree : (o : Option A) (p : Option C) → Matching R o p → Making R (held_or_none o) (held_or_none p)
  held_or_none_agree None None h = tt
  held_or_none_agree None (Some c) h = absurd h
  held_or_none_agree (Some a) None h = absurd h
  held_or_none_agree (Some a) (Some c) h = h
