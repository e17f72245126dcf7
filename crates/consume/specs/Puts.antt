-- Items on their way into sinks.
use Rattle.std.specs.Prelude.{ℕ, zero, suc, List, [], ◌∷◌}

-- An item for the first sink or for the second.
pub data Put (A B : Type 0) : Type 0 where
  to_first : A → Put A B
  to_second : B → Put A B

-- Some puts, in order, into sinks that hold h and k and have m and n places left: `on` goes on with what the sinks are then, and `full` stops at the first put that finds no place, with it and those behind it.
abbrev pub putting : {H K A B Z : Type 0} → (H → A → H) → (K → B → K) → (H → ℕ → K → ℕ → Z) → (List (Put A B) → H → ℕ → K → ℕ → Z) → List (Put A B) → H → ℕ → K → ℕ → Z
putting f g on full [] h m k n = on h m k n
putting f g on full (to_first x ∷ ps) h zero k n = full (to_first x ∷ ps) h 0 k n
putting f g on full (to_first x ∷ ps) h (suc m) k n = putting f g on full ps (f h x) m k n
putting f g on full (to_second y ∷ ps) h m k zero = full (to_second y ∷ ps) h m k 0
putting f g on full (to_second y ∷ ps) h m k (suc n) = putting f g on full ps h m (g k y) n
