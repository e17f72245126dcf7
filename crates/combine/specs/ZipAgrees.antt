-- Lemmas that fill a ghost member: two zips that hold matching items, over lists that agree, agree.
use Rattle.std.specs.Prelude.{◌≡◌, List, [], ◌∷◌, Some, None, Option, refl}
use Rattle.std.proofs.Common.{ap, sym, subst₂}
use Rattle.stream.specs.declared.poll.Poll.TheVariants.{Ready, Pending}
use Rattle.stream.specs.Answers.{Answer, Agree, Matching, Pairwise, settled}
use Rattle.combine.specs.ZipRule.{kept, zipped, zipped_from}

-- the rule without waits
abbrev dry : {A B : Type 0} → List (Option A) → List (Option B) → List (Option (A × B))
dry [] ys = []
dry (None ∷ xs) ys = None ∷ dry xs ys
dry (Some x ∷ xs) [] = None ∷ dry xs []
dry (Some x ∷ xs) (None ∷ ys) = None ∷ dry xs ys
dry (Some x ∷ xs) (Some y ∷ ys) = Some (x, y) ∷ dry xs ys

settled_kept : {A B : Type 0} (x : A) (k : List (Answer B) → List (Answer (A × B))) (xs : List (Option A)) → ((ys : List (Answer B)) → settled (k ys) ≡ dry xs (settled ys)) → (ys : List (Answer B)) → settled (kept x k ys) ≡ dry (Some x ∷ xs) (settled ys)
settled_kept x k xs h [] = ap (λ r. None ∷ r) (h [])
settled_kept x k xs h (Pending ∷ ys) = settled_kept x k xs h ys
settled_kept x k xs h (Ready None ∷ ys) = ap (λ r. None ∷ r) (h ys)
settled_kept x k xs h (Ready (Some y) ∷ ys) = ap (λ r. Some (x, y) ∷ r) (h ys)

settled_zipped : {A B : Type 0} (xs : List (Answer A)) (ys : List (Answer B)) → settled (zipped xs ys) ≡ dry (settled xs) (settled ys)
settled_zipped [] ys = refl
settled_zipped (Pending ∷ xs) ys = settled_zipped xs ys
settled_zipped (Ready None ∷ xs) ys = ap (λ r. None ∷ r) (settled_zipped xs ys)
settled_zipped (Ready (Some x) ∷ xs) ys = settled_kept x (zipped xs) (settled xs) (settled_zipped xs) ys

-- a kept item stands before the items still to come
abbrev held : {A : Type 0} → Option A → List (Option A) → List (Option A)
held None xs = xs
held (Some x) xs = Some x ∷ xs

settled_from : {A B : Type 0} (o : Option A) (xs : List (Answer A)) (ys : List (Answer B)) → settled (zipped_from o xs ys) ≡ dry (held o (settled xs)) (settled ys)
settled_from None xs ys = settled_zipped xs ys
settled_from (Some x) xs ys = settled_kept x (zipped xs) (settled xs) (settled_zipped xs) ys

module _ {A B C D : Type 0} (R : A → C → Type 0) (Q : B → D → Type 0) where
  -- two pairs match part by part
  abbrev both : A × B → C × D → Type 0
  both p q = R p.0 q.0 × Q p.1 q.1

  dry_agree : (xs : List (Option A)) (zs : List (Option C)) (ys : List (Option B)) (ws : List (Option D)) → Pairwise R xs zs → Pairwise Q ys ws → Pairwise both (dry xs ys) (dry zs ws)
  dry_agree [] [] ys ws h k = tt
  dry_agree [] (None ∷ zs) ys ws h k = (tt, dry_agree [] zs ys ws h.1 k)
  dry_agree [] (Some z ∷ zs) ys ws h k = absurd h.0
  dry_agree (None ∷ xs) [] ys ws h k = (tt, dry_agree xs [] ys ws h.1 k)
  dry_agree (Some x ∷ xs) [] ys ws h k = absurd h.0
  dry_agree (None ∷ xs) (None ∷ zs) ys ws h k = (tt, dry_agree xs zs ys ws h.1 k)
  dry_agree (None ∷ xs) (Some z ∷ zs) ys ws h k = absurd h.0
  dry_agree (Some x ∷ xs) (None ∷ zs) ys ws h k = absurd h.0
  dry_agree (Some x ∷ xs) (Some z ∷ zs) [] [] h k = (tt, dry_agree xs zs [] [] h.1 k)
  dry_agree (Some x ∷ xs) (Some z ∷ zs) [] (None ∷ ws) h k = (tt, dry_agree xs zs [] ws h.1 k.1)
  dry_agree (Some x ∷ xs) (Some z ∷ zs) [] (Some w ∷ ws) h k = absurd k.0
  dry_agree (Some x ∷ xs) (Some z ∷ zs) (None ∷ ys) [] h k = (tt, dry_agree xs zs ys [] h.1 k.1)
  dry_agree (Some x ∷ xs) (Some z ∷ zs) (Some y ∷ ys) [] h k = absurd k.0
  dry_agree (Some x ∷ xs) (Some z ∷ zs) (None ∷ ys) (None ∷ ws) h k = (tt, dry_agree xs zs ys ws h.1 k.1)
  dry_agree (Some x ∷ xs) (Some z ∷ zs) (None ∷ ys) (Some w ∷ ws) h k = absurd k.0
  dry_agree (Some x ∷ xs) (Some z ∷ zs) (Some y ∷ ys) (None ∷ ws) h k = absurd k.0
  dry_agree (Some x ∷ xs) (Some z ∷ zs) (Some y ∷ ys) (Some w ∷ ws) h k = ((h.0, k.0), dry_agree xs zs ys ws h.1 k.1)

  held_agree : (o : Option A) (p : Option C) (xs : List (Option A)) (zs : List (Option C)) → Matching R o p → Pairwise R xs zs → Pairwise R (held o xs) (held p zs)
  held_agree None None xs zs m h = h
  held_agree None (Some c) xs zs m h = absurd m
  held_agree (Some a) None xs zs m h = absurd m
  held_agree (Some a) (Some c) xs zs m h = (m, h)

  pub zipped_agree : (o : Option A) (p : Option C) (xs : List (Answer A)) (zs : List (Answer C)) (ys : List (Answer B)) (ws : List (Answer D)) → Matching R o p → Agree R xs zs → Agree Q ys ws → Agree both (zipped_from o xs ys) (zipped_from p zs ws)
  zipped_agree o p xs zs ys ws m h k =
      subst₂ (Pairwise both) (sym (settled_from o xs ys)) (sym (settled_from p zs ws)) (dry_agree (held o (settled xs)) (held p (settled zs)) (settled ys) (settled ws) (held_agree o p (settled xs) (settled zs) m h) k)
