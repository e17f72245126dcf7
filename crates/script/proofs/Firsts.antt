-- How bytes begin, by their first byte.
use Rattle.std.proofs.Common.{◌≡◌, ℕ, ◌+◌, ◌-◌, ◌*◌, ◌≤◌, List, [], ◌∷◌, length, get_or, take, drop, Some, sym, subst, arith}
use Rattle.std.proofs.lemmas.List.{take_rest}
use Rattle.stream.specs.declared.poll.Poll.TheVariants.{Ready}
use Rattle.stream.specs.Answers.{Answer}
use Rattle.script.specs.Commands.{Command, item}

-- with a command of one byte
pub one_byte : (k : ℕ) (a : Answer ℕ) → ((s : List ℕ) → Command (k ∷ s) a s) → (xs : List ℕ) → 1 ≤ length xs → get_or xs 0 0 ≡ k → Command xs a (take (length xs - 1) (drop 1 xs))
one_byte k a w [] h e = absurd (omega arith)
one_byte k a w (b ∷ s) h e = subst (Command (b ∷ s) a) (sym (take_rest (b ∷ s) 1)) (subst (λ z. Command (z ∷ s) a s) (sym e) (w s))

-- with an item
pub an_item : (xs : List ℕ) (word : ℕ) → 3 ≤ length xs → get_or xs 0 0 ≡ 0x49 → word ≡ get_or xs 1 0 * 256 + get_or xs 2 0 → Command xs (Ready (Some word)) (take (length xs - 3) (drop 3 xs))
an_item [] word h e i = absurd (omega arith)
an_item (b ∷ []) word h e i = absurd (omega arith)
an_item (b ∷ high ∷ []) word h e i = absurd (omega arith)
an_item (b ∷ high ∷ low ∷ s) word h e i =
    subst (Command (b ∷ high ∷ low ∷ s) (Ready (Some word))) (sym (take_rest (b ∷ high ∷ low ∷ s) 3)) (subst (λ z. Command (z ∷ high ∷ low ∷ s) (Ready (Some word)) s) (sym e) (item i))
