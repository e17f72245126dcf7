-- Lemmas that fill a ghost member: streams of streams that agree, flattened, agree.
use Rattle.std.specs.Prelude.{◌≡◌, List, [], ◌∷◌, Some, None, Option, refl}
use Rattle.std.proofs.Common.{ap, sym, subst₂, ◌∙◌}
use Rattle.stream.specs.declared.poll.Poll.TheVariants.{Ready, Pending}
use Rattle.stream.specs.Answers.{Answer, Agree, Matching, Pairwise, settled}
use Rattle.stream.specs.NonesAgree.{before_none_agree, dry_before_none, dry_before_none_agree, settled_before_none}
use Rattle.nest.specs.FlattenRule.{flattened, inner_first}

-- the rule without waits
abbrev dry : {U A : Type 0} → (U → List (Option A)) → List (Option U) → List (Option A)
dry answers [] = []
dry answers (None ∷ us) = None ∷ dry answers us
dry answers (Some u ∷ us) = dry_before_none (answers u) (dry answers us)

settled_flattened : {U A : Type 0} (answers : U → List (Answer A)) (us : List (Answer U)) → settled (flattened answers us) ≡ dry (λ u. settled (answers u)) (settled us)
settled_flattened answers [] = refl
settled_flattened answers (Pending ∷ us) = settled_flattened answers us
settled_flattened answers (Ready None ∷ us) = ap (λ r. None ∷ r) (settled_flattened answers us)
settled_flattened answers (Ready (Some u) ∷ us) =
    settled_before_none (answers u) (flattened answers us) ∙ ap (dry_before_none (settled (answers u))) (settled_flattened answers us)

module _ {A B U V : Type 0} (R : A → B → Type 0) (Q : U → V → Type 0) (answers : U → List (Answer A)) (lists : V → List (Answer B)) (inner : (u : U) (v : V) → Q u v → Agree R (answers u) (lists v)) where
  dry_agree : (us : List (Option U)) (vs : List (Option V)) → Pairwise Q us vs → Pairwise R (dry (λ u. settled (answers u)) us) (dry (λ v. settled (lists v)) vs)
  dry_agree [] [] h = tt
  dry_agree [] (None ∷ vs) h = (tt, dry_agree [] vs h.1)
  dry_agree [] (Some v ∷ vs) h = absurd h.0
  dry_agree (None ∷ us) [] h = (tt, dry_agree us [] h.1)
  dry_agree (Some u ∷ us) [] h = absurd h.0
  dry_agree (None ∷ us) (None ∷ vs) h = (tt, dry_agree us vs h.1)
  dry_agree (None ∷ us) (Some v ∷ vs) h = absurd h.0
  dry_agree (Some u ∷ us) (None ∷ vs) h = absurd h.0
  dry_agree (Some u ∷ us) (Some v ∷ vs) h =
      dry_before_none_agree R (settled (answers u)) (settled (lists v)) _ _ (inner u v h.0) (dry_agree us vs h.1)

  pub flattened_agree : (us : List (Answer U)) (vs : List (Answer V)) → Agree Q us vs → Agree R (flattened answers us) (flattened lists vs)
  flattened_agree us vs h =
      subst₂ (Pairwise R) (sym (settled_flattened answers us)) (sym (settled_flattened lists vs)) (dry_agree (settled us) (settled vs) h)

pub inner_first_agree : {U A B : Type 0} (R : A → B → Type 0) (answers : U → List (Answer A)) (o : Option U) (p : Option (List (Answer B))) (k : List (Answer A)) (l : List (Answer B)) → Matching (λ u ys. Agree R (answers u) ys) o p → Agree R k l → Agree R (inner_first answers o k) (inner_first (λ ys. ys) p l)
inner_first_agree R answers None None k l m h = h
inner_first_agree R answers None (Some ys) k l m h = absurd m
inner_first_agree R answers (Some u) None k l m h = absurd m
inner_first_agree R answers (Some u) (Some ys) k l m h = before_none_agree R (answers u) ys k l m h
