-- Then by a real callback, as by a behaviour of a second pipeline.
use Rattle.std.proofs.Common.{◌≡◌, ℕ, List, [], ◌∷◌, Some, None, refl, ap}
use Rattle.stream.specs.declared.poll.Poll.TheVariants.{Ready, Pending}
use Rattle.stream.specs.Answers.{Answer}
use Rattle.stream.specs.Callbacks.{gives, onward}
use Rattle.stream.specs.Futures.{waited}
use Rattle.stream.proofs.Behaving.{behaviour_of}
use Rattle.nest.specs.ThenRule.{thened}

module _ {F A U B : Type 0} (out : F → A → U) (next : F → A → F) (waits : U → ℕ) (output : U → B) where
  -- a future, seen by its waits and its output
  abbrev pub seen_future : U → ℕ × B
  seen_future u = (waits u, output u)

  pub thened_by_behaviour : (f : F) (xs : List (Answer A)) → thened gives onward (λ v. v.0) (λ v. v.1) (behaviour_of out next seen_future f) xs ≡ thened out next waits output f xs
  thened_by_behaviour f [] = refl
  thened_by_behaviour f (Pending ∷ xs) = ap (λ r. Pending ∷ r) (thened_by_behaviour f xs)
  thened_by_behaviour f (Ready None ∷ xs) = ap (λ r. Ready None ∷ r) (thened_by_behaviour f xs)
  thened_by_behaviour f (Ready (Some x) ∷ xs) = ap (waited (waits (out f x)) (output (out f x))) (thened_by_behaviour (next f x) xs)
