-- How items are seen from outside, so that a second pipeline can be spoken of without naming its types.
use Rattle.std.specs.Prelude.{◌≡◌, List, Some, Option}
use Rattle.stream.specs.Answers.{Answer, Agree, Matching}

-- What an item of the kind A is seen as, and when an item is the same as one so seen.
pub record View (A : Type 0) : Type 1 where
  pub Seen : Type 0
  pub same : A → Seen → Type 0

-- Plain values are seen as they are.
abbrev pub plain : {A : Type 0} → View A
plain {A} = record { Seen = A; same = λ a b. a ≡ b }

-- A stream is seen by its list, and is the same as each list that agrees with its own.
abbrev pub streams : {S A : Type 0} → (S → List (Answer A)) → View A → View S
streams answers view = record { Seen = List (Answer view.Seen); same = λ s l. Agree view.same (answers s) l }

-- A pair is seen part by part.
abbrev pub pairs : {A B : Type 0} → View A → View B → View (A × B)
pairs a b = record { Seen = a.Seen × b.Seen; same = λ p q. a.same p.0 q.0 × b.same p.1 q.1 }

-- An option is seen part by part.
abbrev pub options : {A : Type 0} → View A → View (Option A)
options a = record { Seen = Option a.Seen; same = Matching a.same }

-- What an option holds is seen as the option that holds it.
abbrev pub insides : {A : Type 0} → View (Option A) → View A
insides o = record { Seen = o.Seen; same = λ a v. o.same (Some a) v }
