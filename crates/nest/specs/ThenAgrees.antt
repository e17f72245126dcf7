-- Lemmas that fill a ghost member: two Thens with callbacks that agree, over lists that agree, agree.
use Rattle.std.specs.Prelude.{◌≡◌, ℕ, zero, suc, List, [], ◌∷◌, Some, None, Option, refl}
use Rattle.std.proofs.Common.{ap, sym, subst₂, ◌∙◌}
use Rattle.stream.specs.declared.poll.Poll.TheVariants.{Ready, Pending}
use Rattle.stream.specs.Answers.{Answer, Agree, Matching, Pairwise, settled}
use Rattle.stream.specs.Callbacks.{CallbacksAgree}
use Rattle.stream.specs.Itemwise.{itemwise}
use Rattle.stream.specs.Itemwise.Made.{item}
use Rattle.stream.specs.ItemwiseAgrees.{itemwise_agree}
use Rattle.nest.specs.ThenRule.{future_first, thened}
use Rattle.stream.specs.Futures.{waited}

settled_waited : {B : Type 0} (n : ℕ) (b : B) (k : List (Answer B)) → settled (waited n b k) ≡ Some b ∷ settled k
settled_waited zero b k = refl
settled_waited (suc n) b k = settled_waited n b k

-- without waits, each item becomes its future's output
settled_thened : {F A U B : Type 0} (out : F → A → U) (next : F → A → F) (waits : U → ℕ) (output : U → B) (f : F) (xs : List (Answer A)) → settled (thened out next waits output f xs) ≡ settled (itemwise (λ c x. item (output (out c x))) next f xs)
settled_thened out next waits output f [] = refl
settled_thened out next waits output f (Pending ∷ xs) = settled_thened out next waits output f xs
settled_thened out next waits output f (Ready None ∷ xs) = ap (λ r. None ∷ r) (settled_thened out next waits output f xs)
settled_thened out next waits output f (Ready (Some x) ∷ xs) =
    settled_waited (waits (out f x)) (output (out f x)) (thened out next waits output (next f x) xs) ∙ ap (λ r. Some (output (out f x)) ∷ r) (settled_thened out next waits output (next f x) xs)

module _ {F G A B C D U V : Type 0} (R : A → C → Type 0) (Q : B → D → Type 0) (out : F → A → U) (next : F → A → F) (waits : U → ℕ) (output : U → B) (out' : G → C → V) (next' : G → C → G) (waits' : V → ℕ) (output' : V → D) where
  -- two futures match by their outputs
  abbrev pub OutputsMatch : U → V → Type 0
  OutputsMatch u v = Q (output u) (output' v)

  pub thened_agree : (f : F) (g : G) (xs : List (Answer A)) (ys : List (Answer C)) → CallbacksAgree R OutputsMatch out next out' next' f g → Agree R xs ys → Agree Q (thened out next waits output f xs) (thened out' next' waits' output' g ys)
  thened_agree f g xs ys h k =
      subst₂ (Pairwise Q) (sym (settled_thened out next waits output f xs)) (sym (settled_thened out' next' waits' output' g ys))
      (itemwise_agree R Q (CallbacksAgree R OutputsMatch out next out' next') (λ c x. item (output (out c x))) next (λ c y. item (output' (out' c y))) next' (λ c d x y m r. ((m 1 x y r).0, λ n. (m (suc n) x y r).1)) f g xs ys _ h k refl)

  pub future_agree : (o : Option U) (p : Option V) (k : List (Answer B)) (l : List (Answer D)) → Matching OutputsMatch o p → Agree Q k l → Agree Q (future_first waits output o k) (future_first waits' output' p l)
  future_agree None None k l m h = h
  future_agree None (Some v) k l m h = absurd m
  future_agree (Some u) None k l m h = absurd m
  future_agree (Some u) (Some v) k l m h =
      subst₂ (Pairwise Q) (sym (settled_waited (waits u) (output u) k)) (sym (settled_waited (waits' v) (output' v) l)) (m, h)
