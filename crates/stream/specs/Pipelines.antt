-- What a stream shows of itself as a pipeline, and what one poll of it does.
use Rattle.std.specs.Prelude.{◌≡◌, ℕ, List}
use Rattle.stream.specs.Answers.{Answer, Agree, first, rest, waits_in}
use Rattle.stream.specs.Views.{View}

-- A stream as a pipeline:
pub record Pipeline {S A : Type 0} (answers : S → List (Answer A)) : Type 1 where
  -- how its items are seen;
  pub view : View A
  -- that a poll from one state to another took so many waits from the sources below;
  pub took : S → ℕ → S → Type 0
  -- that a list is that of a pipeline of the same arrangement over parts that agree;
  pub alike : S → List (Answer view.Seen) → Type 0
  -- and that such lists agree.
  pub agree : (s : S) (ys : List (Answer view.Seen)) → alike s ys → Agree view.same (answers s) ys

-- A stream of any make, as the source of a pipeline: what a poll takes is its own answer, and it is alike to each list that agrees with its own. (Of a source alone this says no more than that it answers the first of its list. It says more of an adapter, to which the relation of a stream that it is given is unknown.)
abbrev pub source : {S A : Type 0} (answers : S → List (Answer A)) (view : View A) → Pipeline answers
source answers view = record {
  view = view;
  took = λ s w t. w ≡ waits_in (first (answers s));
  alike = λ s ys. Agree view.same (answers s) ys;
  agree = λ s ys h. h;
}

-- One poll of a stream, which from the state s answered r and left the state t:
pub record Polled {S A : Type 0} (answers : S → List (Answer A)) (pipeline : Pipeline answers) (s : S) (r : Answer A) (t : S) : Type 0 where
  -- the answer is the first of its list;
  pub answer : r ≡ first (answers s)
  -- the rest of the list is left;
  pub after : answers t ≡ rest (answers s)
  -- it took one wait from below if the answer is a wait, and else none.
  pub took : pipeline.took s (waits_in r) t
