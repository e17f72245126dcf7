-- When two callbacks agree.
use Rattle.std.specs.Prelude.{ℕ, zero, suc, List, [], ◌∷◌}

-- What a callback gives for an input after the inputs before it: a callback of any make, seen by what it gives.
abbrev pub Behaviour : Type 0 → Type 0 → Type 0
Behaviour A B = List A → A → B

-- What a behaviour gives for its next input.
abbrev pub gives : {A B : Type 0} → Behaviour A B → A → B
gives h a = h [] a

-- The behaviour after one more input.
abbrev pub onward : {A B : Type 0} → Behaviour A B → A → Behaviour A B
onward h a = λ past. h (a ∷ past)

-- Two callbacks, each by its output and by what it holds next, that give matching outputs on matching inputs for n calls.
abbrev pub AlikeFor : {F G A B C D : Type 0} → (A → B → Type 0) → (C → D → Type 0) → (F → A → C) → (F → A → F) → (G → B → D) → (G → B → G) → ℕ → F → G → Type 0
AlikeFor R Q out next out' next' zero f g = Unit {0}
AlikeFor {A = A} {B = B} R Q out next out' next' (suc n) f g =
    (a : A) (b : B) → R a b → Q (out f a) (out' g b) × AlikeFor R Q out next out' next' n (next f a) (next' g b)

-- Two callbacks agree when they do so for any number of calls.
abbrev pub CallbacksAgree : {F G A B C D : Type 0} → (A → B → Type 0) → (C → D → Type 0) → (F → A → C) → (F → A → F) → (G → B → D) → (G → B → G) → F → G → Type 0
CallbacksAgree R Q out next out' next' f g = (n : ℕ) → AlikeFor R Q out next out' next' n f g
