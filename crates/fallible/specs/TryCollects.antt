-- What TryCollectFuture means.
use Rattle.std.specs.Prelude.{◌≡◌, List, [], ◌∷◌, Some, None, Ok, Err, Option, Result}
use Rattle.consume.specs.Puts.{Put, to_first}
use Rattle.consume.specs.Meanings.{Meaning, Verdict, goes_on, breaks}
use Rattle.fallible.specs.declared.try_collect.TryCollectFuture.{TryCollectFuture}

-- A good item is put in the first sink; a fault is put nowhere.
abbrev pub good_put : {A E B : Type 0} → Result A E → List (Put A B)
good_put (Ok x) = to_first x ∷ []
good_put (Err e) = []

-- The fault that it broke off with, if any.
abbrev pub fault_met : {A E : Type 0} → Option E → Result A E → Option E
fault_met s (Ok x) = s
fault_met s (Err e) = Some e

-- It goes on at a good item, and breaks off at a fault.
abbrev pub good_goes_on : {A E : Type 0} → Result A E → Verdict
good_goes_on (Ok x) = goes_on
good_goes_on (Err e) = breaks

-- The item that is kept is for the first sink.
abbrev pub one_kept : {A B : Type 0} → Option A → List (Put A B)
one_kept None = []
one_kept (Some x) = to_first x ∷ []

-- TryCollectFuture puts each good item, and hands back the first fault as it is.
abbrev pub try_collects : {S A E : Type 0} → Meaning (TryCollectFuture S A) S (Result A E) A A (Unit {0}) E (Unit {0})
try_collects {E = E} = record {
  stream = λ c. c.stream;
  State = Option E;
  state = λ c. None;
  rule = record { puts = λ s x. good_put x; next = fault_met; verdict = λ s x. good_goes_on x };
  kept = λ c. one_kept c.kept;
  done = λ s o f. Unit {0};
  fault = λ s e f. s ≡ Some e;
}
