-- The rule of Flatten and of FlatMap.
use Rattle.std.specs.Prelude.{List, [], ◌∷◌, Some, None, Option}
use Rattle.stream.specs.declared.poll.Poll.TheVariants.{Ready, Pending}
use Rattle.stream.specs.Answers.{Answer}
use Rattle.stream.specs.Nones.{before_none}

-- Waits and Nones pass in their places. Each inner stream becomes its answers before its first None.
abbrev pub flattened : {U A : Type 0} → (U → List (Answer A)) → List (Answer U) → List (Answer A)
flattened answers [] = []
flattened answers (Pending ∷ us) = Pending ∷ flattened answers us
flattened answers (Ready None ∷ us) = Ready None ∷ flattened answers us
flattened answers (Ready (Some u) ∷ us) = before_none (answers u) (flattened answers us)

-- The answers of the inner stream that is held, if any, before its first None, and then those that follow.
abbrev pub inner_first : {U A : Type 0} → (U → List (Answer A)) → Option U → List (Answer A) → List (Answer A)
inner_first answers None following = following
inner_first answers (Some u) following = before_none (answers u) following

-- An answer that is not None: a wait or an item.
abbrev pub NotNone : {A : Type 0} → Answer A → Type 0
NotNone Pending = Unit {0}
NotNone (Ready (Some x)) = Unit {0}
NotNone (Ready None) = ⊥
