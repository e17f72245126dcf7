-- Lemmas that fill a ghost field: a script stands for its answers in one way.
use Rattle.std.specs.Prelude.{◌≡◌, ℕ, List, refl}
use Rattle.std.proofs.Common.{ap, ap₂}
use Rattle.std.proofs.Math.Nat.{ℕ_set}
use Rattle.stream.specs.Answers.{Answer}
use Rattle.script.specs.Commands.{StandsFor, wait, none, item, empty, next}

pub stands_in_one_way : {s : List ℕ} {l : List (Answer ℕ)} → (p q : StandsFor s l) → p ≡ q
stands_in_one_way empty empty = refl
stands_in_one_way (next wait p) (next wait q) = ap (next wait) (stands_in_one_way p q)
stands_in_one_way (next none p) (next none q) = ap (next none) (stands_in_one_way p q)
stands_in_one_way (next (item d) p) (next (item e) q) = ap₂ (λ w r. next (item w) r) (ℕ_set _ _ d e) (stands_in_one_way p q)
