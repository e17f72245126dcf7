-- Ruling cases out, and reading an answer off a poll.
use Rattle.std.proofs.Common.{◌≡◌, ℕ, false, List, [], ◌∷◌, is_some, Some, None, Option, refl, subst, arith}
use Rattle.stream.specs.declared.poll.Poll.TheVariants.{Ready, Pending}
use Rattle.stream.specs.Answers.{Answer, first}
use Rattle.stream.specs.Pipelines.{Pipeline, Polled}

pub never : {A : Type 0} → ◌≡◌ {A = ℕ} 0 1 → A
never z = absurd (omega arith)

pub none_of : {A : Type 0} (o : Option A) → is_some o ≡ false → o ≡ None
none_of None e = refl
none_of (Some x) e = never (cc)

-- a poll that answered r, which is r'
pub answered_as : {S A : Type 0} {answers : S → List (Answer A)} {pipeline : Pipeline answers} {s t : S} {r : Answer A} (r' : Answer A) → r ≡ r' → Polled answers pipeline s r t → Polled answers pipeline s r' t
answered_as {answers = answers} {pipeline = pipeline} {s = s} {t = t} r' e p = subst (λ a. Polled answers pipeline s a t) e p

-- a poll that answered o, where the equation at hand has another term for o
pub answered : {S A : Type 0} {answers : S → List (Answer A)} {pipeline : Pipeline answers} {s t : S} {o : Option A} (o' : Option A) → Polled answers pipeline s (Ready o) t → Ready o' ≡ first (answers s) → Polled answers pipeline s (Ready o') t
answered o' p e = record { answer = e; after = p.after; took = p.took }

-- what holds of a list by its first answer
module _ {A : Type 0} (P : List (Answer A) → Type 0) where
  pub at_wait : (xs : List (Answer A)) → Pending ≡ first xs → ((ys : List (Answer A)) → P (Pending ∷ ys)) → P xs
  at_wait [] e h = never (cc)
  at_wait (Pending ∷ xs) e h = h xs
  at_wait (Ready o ∷ xs) e h = never (cc)

  pub at_none : (xs : List (Answer A)) → Ready None ≡ first xs → P [] → ((ys : List (Answer A)) → P (Ready None ∷ ys)) → P xs
  at_none [] e z h = z
  at_none (Pending ∷ xs) e z h = never (cc)
  at_none (Ready None ∷ xs) e z h = h xs
  at_none (Ready (Some x) ∷ xs) e z h = never (cc)

  pub at_item : (x : A) (xs : List (Answer A)) → Ready (Some x) ≡ first xs → ((ys : List (Answer A)) (y : A) → x ≡ y → P (Ready (Some y) ∷ ys)) → P xs
  at_item x [] e h = never (cc)
  at_item x (Pending ∷ xs) e h = never (cc)
  at_item x (Ready None ∷ xs) e h = never (cc)
  at_item x (Ready (Some y) ∷ xs) e h = h xs y (cc)
