-- What an input is: a length in two bytes, high byte first, the high-word script of that length, and the low-word script.
use Rattle.std.specs.Prelude.{◌≡◌, ℕ, ◌+◌, ◌*◌, cond, ◌⊎◌, List, [], ◌∷◌, length, take, drop, Some, None, Ok, Err, Option, Result, nat_le}
use Rattle.script.specs.Checks.{refusal}
use Rattle.gateway.specs.declared.refusal.InputRefusal.{InputRefusal}
use Rattle.gateway.specs.declared.refusal.InputRefusal.TheVariants.{Header, Script}

-- What follows the two bytes of the length n, cut after n bytes; nothing where fewer follow.
abbrev pub cut_at : ℕ → List ℕ → Option (List ℕ × List ℕ)
cut_at n bytes = cond (nat_le n (length bytes)) (Some (take n bytes, drop n bytes)) None

-- The bytes of the high-word script and of the low-word script, where the header is right.
abbrev pub scripts : List ℕ → Option (List ℕ × List ℕ)
scripts [] = None
scripts (high ∷ []) = None
scripts (high ∷ low ∷ bytes) = cut_at (high * 256 + low) bytes

-- How an input is cut, or refused for its header; `bytes` gives the bytes of the two scripts that come out.
abbrev pub Cut : {A : Type 0} → (A → List ℕ × List ℕ) → List ℕ → Result A InputRefusal → Type 0
Cut bytes input (Ok p) = scripts input ≡ Some (bytes p)
Cut bytes input (Err r) = (scripts input ≡ None) × (r ≡ Header)

-- Why an input is refused: its header is wrong, or one of its two scripts is refused so. The high-word script has the
-- number 1 and the low-word script the number 2; where both are refused, either may be named.
abbrev pub RefusedFor : List ℕ → InputRefusal → Type 0
RefusedFor input Header = scripts input ≡ None
RefusedFor input (Script e) = (s : List ℕ × List ℕ) × (scripts input ≡ Some s) × ((refusal 1 s.0 ≡ Some e) ⊎ (refusal 2 s.1 ≡ Some e))

-- What is made of an input: something of its two scripts, neither of which is refused, or a refusal; `bytes` gives the
-- bytes of the two scripts.
abbrev pub Opened : {A : Type 0} → (A → List ℕ × List ℕ) → List ℕ → Result A InputRefusal → Type 0
Opened bytes input (Ok p) = (scripts input ≡ Some (bytes p)) × (refusal 1 (bytes p).0 ≡ None) × (refusal 2 (bytes p).1 ≡ None)
Opened bytes input (Err r) = RefusedFor input r
