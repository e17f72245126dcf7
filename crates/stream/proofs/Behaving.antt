-- A real callback over plain items, as a behaviour of a second pipeline.
use Rattle.std.proofs.Common.{◌≡◌, ℕ, zero, suc, List, [], ◌∷◌, Some, None, refl, ap, subst, ap₂}
use Rattle.stream.specs.declared.poll.Poll.TheVariants.{Ready, Pending}
use Rattle.stream.specs.Answers.{Answer}
use Rattle.stream.specs.Callbacks.{AlikeFor, Behaviour, CallbacksAgree, gives, onward}
use Rattle.stream.specs.Itemwise.{Made, before, itemwise}

-- what a callback holds after some inputs
abbrev holds_after : {F A : Type 0} → (F → A → F) → F → List A → F
holds_after next f [] = f
holds_after next f (a ∷ past) = holds_after next (next f a) past

-- a callback whose outputs are seen by `see`
abbrev pub behaviour_of : {F A O P : Type 0} → (F → A → O) → (F → A → F) → (O → P) → F → Behaviour A P
behaviour_of out next see f past a = see (out (holds_after next f past) a)

-- where inputs that match are the same, and each output matches what it is seen as, a callback agrees with itself
module _ {F A O P : Type 0} (out : F → A → O) (next : F → A → F) (see : O → P) (R : A → A → Type 0) (plainly : (a b : A) → R a b → a ≡ b) (same : O → P → Type 0) (seen : (o : O) → same o (see o)) where
  agrees_for : (n : ℕ) (f : F) → AlikeFor R same out next gives onward n f (behaviour_of out next see f)
  agrees_for zero f = tt
  agrees_for (suc n) f = λ a b r. (
    subst (λ c. same (out f a) (see (out f c))) (plainly a b r) (seen (out f a)),
    subst (λ c. AlikeFor R same out next gives onward n (next f a) (behaviour_of out next see (next f c))) (plainly a b r) (agrees_for n (next f a)),
  )

  pub agrees_with_itself : (f : F) → CallbacksAgree R same out next gives onward f (behaviour_of out next see f)
  agrees_with_itself f = λ n. agrees_for n f

-- an adapter makes the same by the behaviour as by the callback
module _ {F A O P B : Type 0} (out : F → A → O) (next : F → A → F) (see : O → P) (makes : O → A → Made B) (makes' : P → A → Made B) (made_same : (o : O) (a : A) → makes' (see o) a ≡ makes o a) where
  pub itemwise_by_behaviour : (f : F) (xs : List (Answer A)) → itemwise (λ h x. makes' (gives h x) x) onward (behaviour_of out next see f) xs ≡ itemwise (λ g x. makes (out g x) x) next f xs
  itemwise_by_behaviour f [] = refl
  itemwise_by_behaviour f (Pending ∷ xs) = ap (λ r. Pending ∷ r) (itemwise_by_behaviour f xs)
  itemwise_by_behaviour f (Ready None ∷ xs) = ap (λ r. Ready None ∷ r) (itemwise_by_behaviour f xs)
  itemwise_by_behaviour f (Ready (Some x) ∷ xs) = ap₂ before (made_same (out f x) x) (itemwise_by_behaviour (next f x) xs)
