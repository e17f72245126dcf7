-- What a poll passes on: an answer that brings no item, and what it shows where it goes on.
use Rattle.std.proofs.Common.{◌≡◌, ℕ, List, [], ◌∷◌, Some, None, refl, ap, ◌∙◌}
use Rattle.stream.specs.declared.poll.Poll.TheVariants.{Ready, Pending}
use Rattle.stream.specs.Answers.{Answer, NoItem, first, rest, waits_in}
use Rattle.stream.specs.Pipelines.{Pipeline, Polled}
use Rattle.stream.proofs.Cases.{at_none, at_wait}

-- an answer that brings no item, as that of another stream
abbrev pub passed : {A B : Type 0} (r : Answer A) → NoItem r → Answer B
passed Pending h = Pending
passed (Ready None) h = Ready None
passed (Ready (Some x)) h = absurd h

pub passed_waits : {A : Type 0} (B : Type 0) (r : Answer A) (h : NoItem r) → waits_in (passed {B = B} r h) ≡ waits_in r
passed_waits B Pending h = refl
passed_waits B (Ready None) h = refl
passed_waits B (Ready (Some x)) h = absurd h

-- a rule by which waits and Nones pass in their places
module _ {A B : Type 0} (rule : List (Answer A) → List (Answer B)) where
  -- the answer r is that of the rule, and the rest is left
  abbrev Passes : Answer B → List (Answer A) → Type 0
  Passes r xs = (r ≡ first (rule xs)) × (rule (rest xs) ≡ rest (rule xs))

  pub at_no_item : Passes (Ready None) [] → ((ys : List (Answer A)) → Passes Pending (Pending ∷ ys)) → ((ys : List (Answer A)) → Passes (Ready None) (Ready None ∷ ys)) → (r : Answer A) (h : NoItem r) (xs : List (Answer A)) → r ≡ first xs → Passes (passed r h) xs
  at_no_item z w n Pending h xs e = at_wait (Passes Pending) xs e w
  at_no_item z w n (Ready None) h xs e = at_none (Passes (Ready None)) xs e z n
  at_no_item z w n (Ready (Some x)) h xs e = absurd h

-- A poll that began at m goes on at n: what a poll from n shows, one from m shows.
abbrev pub Goes_on : {S A : Type 0} (answers : S → List (Answer A)) (pipeline : Pipeline answers) → S → S → Type 0
Goes_on {S} {A} answers pipeline m n = (r : Answer A) (t : S) → Polled answers pipeline n r t → Polled answers pipeline m r t

pub goes_on : {S A : Type 0} (answers : S → List (Answer A)) (pipeline : Pipeline answers) (m n : S) → answers n ≡ answers m → ((w : ℕ) (t : S) → pipeline.took n w t → pipeline.took m w t) → Goes_on answers pipeline m n
goes_on answers pipeline m n e h r t p = record {
  answer = p.answer ∙ ap first e;
  after = p.after ∙ ap rest e;
  took = h (waits_in r) t p.took;
}
