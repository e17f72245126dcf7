-- The delay law of pipelines, over runs in which two of them are polled in any order.
use Rattle.std.specs.Prelude.{◌≡◌, ℕ, zero, suc, List, [], ◌∷◌, ◌++◌, length, Some, None, Option}
use Rattle.std.specs.List.{fold}
use Rattle.stream.specs.declared.poll.Poll.TheVariants.{Ready, Pending}
use Rattle.stream.specs.declared.stream.Stream.{Ghosts as Streams}
use Rattle.stream.specs.declared.callback.Callback.{Ghosts as Callbacks}
use Rattle.stream.specs.Answers.{Answer, Matching, first, rest, settled}
use Rattle.stream.specs.Pipelines.{Polled}
use Rattle.law.specs.declared.shown.Turn.{Turn}
use Rattle.law.specs.declared.shown.Turn.TheVariants as turn
use Rattle.law.specs.declared.shown.Shown.{Shown}
use Rattle.law.specs.declared.shown.Shown.TheVariants as shown

-- The first n answers of a list, which goes on in None at its end.
abbrev pub firsts : {A : Type 0} → ℕ → List (Answer A) → List (Answer A)
firsts zero xs = []
firsts (suc n) xs = first xs ∷ firsts n (rest xs)

-- Two lists of settled answers hold the same items and Nones in the same order, up to the length of the shorter.
abbrev pub SameSoFar : {A B : Type 0} → (A → B → Type 0) → List (Option A) → List (Option B) → Type 0
SameSoFar R [] ys = Unit {0}
SameSoFar R (x ∷ xs) [] = Unit {0}
SameSoFar R (x ∷ xs) (y ∷ ys) = Matching R x y × SameSoFar R xs ys

-- A list with each item as it is seen.
abbrev pub all_seen : {A B : Type 0} → (A → B) → List (Answer A) → List (Answer B)
all_seen see [] = []
all_seen see (Pending ∷ xs) = Pending ∷ all_seen see xs
all_seen see (Ready None ∷ xs) = Ready None ∷ all_seen see xs
all_seen see (Ready (Some x) ∷ xs) = Ready (Some (see x)) ∷ all_seen see xs

-- The answers that the first pipeline gave, in order.
abbrev pub of_first : {A B : Type 0} → List (Shown A B) → List (Answer A)
of_first [] = []
of_first (shown.First r ∷ xs) = r ∷ of_first xs
of_first (shown.Second r ∷ xs) = of_first xs

-- The answers that the second pipeline gave, in order.
abbrev pub of_second : {A B : Type 0} → List (Shown A B) → List (Answer B)
of_second [] = []
of_second (shown.First r ∷ xs) = of_second xs
of_second (shown.Second r ∷ xs) = r ∷ of_second xs

module _ {P Q V A B : Type 0} (one : Streams P A) (two : Streams Q B) (viewer : Callbacks V (Shown A B) Turn) where
  -- Some polls of two pipelines, one after another, from the states p and q. Each answer is shown to a viewer, which says whose turn is next. Each poll is `Polled`: its answer is the first of its pipeline's list, and it took one wait from the sources and futures below if the answer is a wait, and else none.
  pub data PollsOfBoth (p : P) (q : Q) (v : V) (start : Turn) : List (Shown A B) → P → Q → V → Turn → Type 0 where
    none_yet : PollsOfBoth p q v start [] p q v start
    first_polled : {so_far : List (Shown A B)} {s s' : P} {t : Q} {u : V} {r : Answer A} → PollsOfBoth p q v start so_far s t u turn.First → Polled one.answers one.pipeline s r s' → PollsOfBoth p q v start (so_far ++ (shown.First r ∷ [])) s' t (viewer.next u (shown.First r)) (viewer.output u (shown.First r))
    second_polled : {so_far : List (Shown A B)} {s : P} {t t' : Q} {u : V} {r : Answer B} → PollsOfBoth p q v start so_far s t u turn.Second → Polled two.answers two.pipeline t r t' → PollsOfBoth p q v start (so_far ++ (shown.Second r ∷ [])) s t' (viewer.next u (shown.Second r)) (viewer.output u (shown.Second r))

  -- What holds of the answers so far, however the polls went:
  pub record DelayLaw (p : P) (q : Q) (so_far : List (Shown A B)) : Type 0 where
    -- each pipeline's answers are those that its list begins with;
    pub first_answers : of_first so_far ≡ firsts (length (of_first so_far)) (one.answers p)
    pub second_answers : of_second so_far ≡ firsts (length (of_second so_far)) (two.answers q)
    -- if the two pipelines are built alike, then with waits removed they have given the same items and Nones in the same order, up to the length of the shorter. (Items of the second are compared as the first sees them.)
    pub same : (see : B → one.pipeline.view.Seen) → one.pipeline.alike p (all_seen see (two.answers q)) → SameSoFar (λ a b. one.pipeline.view.same a (see b)) (settled (of_first so_far)) (settled (of_second so_far))

  -- A run of so many polls from p and q, in an order that the viewer chose, to p' and q', and the law for it.
  pub record PolledLawfully (p : P) (q : Q) (v : V) (start : Turn) (polls : ℕ) (p' : P) (q' : Q) (v' : V) (turn : Turn) : Type 0 where
    pub so_far : List (Shown A B)
    pub count : length so_far ≡ polls
    pub run : PollsOfBoth p q v start so_far p' q' v' turn
    -- The viewer was shown those answers: it was called with each of them, once and in order.
    pub viewed : v' ≡ fold viewer.next v so_far
    pub law : DelayLaw p q so_far
