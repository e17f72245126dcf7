-- What a future means, and what one poll of it does.
use Rattle.std.specs.Prelude.{◌≡◌, ℕ, zero, suc, List, ◌∷◌, Some}
use Rattle.stream.specs.declared.poll.Poll.{Poll}
use Rattle.stream.specs.declared.poll.Poll.TheVariants.{Ready, Pending}
use Rattle.stream.specs.Answers.{Answer, waits_in}

-- What a future answers that has so many waits to come, and then its output.
abbrev pub after_waits : {B : Type 0} → ℕ → B → Poll B
after_waits zero b = Ready b
after_waits (suc n) b = Pending

-- The waits that are left after a poll.
abbrev pub one_less : ℕ → ℕ
one_less zero = zero
one_less (suc n) = n

-- So many waits, then the item b, and then the answers that follow.
abbrev pub waited : {B : Type 0} → ℕ → B → List (Answer B) → List (Answer B)
waited zero b following = Ready (Some b) ∷ following
waited (suc n) b following = Pending ∷ waited n b following

-- How many waits the next poll answers, where so many are to come: one or none.
abbrev pub next_waits : ℕ → ℕ
next_waits zero = 0
next_waits (suc n) = 1

-- A future of any make takes its own answer: one wait while it has waits to come. (To an adapter, the relation of a future that it is given is unknown.)
abbrev pub own_waits : {U : Type 0} → (U → ℕ) → U → ℕ → U → Type 0
own_waits waits u w v = w ≡ next_waits (waits u)

-- One poll of a future, which from the state u answered r and left the state v:
pub record FuturePolled {U B : Type 0} (waits : U → ℕ) (output : U → B) (takes : U → ℕ → U → Type 0) (u : U) (r : Poll B) (v : U) : Type 0 where
  -- the answer is a wait while there are waits to come, and then the output;
  pub answer : r ≡ after_waits (waits u) (output u)
  -- there is a wait less to come;
  pub fewer : waits v ≡ one_less (waits u)
  -- the output is the same;
  pub same : output v ≡ output u
  -- it took one wait if the answer is a wait, and else none.
  pub took : takes u (waits_in r) v
