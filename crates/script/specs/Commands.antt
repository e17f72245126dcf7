-- The commands of a script, and what a source answers to each.
use Rattle.std.specs.Prelude.{◌≡◌, ℕ, ◌+◌, ◌*◌, cond, List, [], ◌∷◌, Some, None, ◌==◌}
use Rattle.stream.specs.declared.poll.Poll.TheVariants.{Ready, Pending}
use Rattle.stream.specs.Answers.{Answer}

-- Bytes that begin with a command, the answer to it, and the bytes after it: `W` is a wait, `N` a None, and `I` an item, the word of the two bytes after it, high byte first.
pub data Command : List ℕ → Answer ℕ → List ℕ → Type 0 where
  wait : {s : List ℕ} → Command (0x57 ∷ s) Pending s
  none : {s : List ℕ} → Command (0x4E ∷ s) (Ready None) s
  item : {high low word : ℕ} {s : List ℕ} → word ≡ high * 256 + low → Command (0x49 ∷ high ∷ low ∷ s) (Ready (Some word)) s

-- A script is right, and stands for these answers, when it is empty, or when it begins with a command and what follows is right.
pub data StandsFor : List ℕ → List (Answer ℕ) → Type 0 where
  empty : StandsFor [] []
  next : {s t : List ℕ} {a : Answer ℕ} {l : List (Answer ℕ)} → Command s a t → StandsFor t l → StandsFor s (a ∷ l)

-- A script is right when it stands for some answers.
abbrev pub Right : List ℕ → Type 0
Right s = (l : List (Answer ℕ)) × StandsFor s l

-- One of four, by a byte: for `W`, for `N`, for `I`, and for any other.
abbrev pub by_command : {A : Type 0} → ℕ → A → A → A → A → A
by_command byte w n i other = cond (byte == 0x57) w (cond (byte == 0x4E) n (cond (byte == 0x49) i other))

abbrev mutual
  -- The answers to the commands of a row of bytes, up to the first fault if there is one.
  pub commands : List ℕ → List (Answer ℕ)
  commands [] = []
  commands (byte ∷ s) = by_command byte (Pending ∷ commands s) (Ready None ∷ commands s) (item_commands s) []

  -- From after an `I`.
  pub item_commands : List ℕ → List (Answer ℕ)
  item_commands [] = []
  item_commands (high ∷ s) = word_commands high s

  -- From after an `I` and the high byte of its word.
  pub word_commands : ℕ → List ℕ → List (Answer ℕ)
  word_commands high [] = []
  word_commands high (low ∷ s) = Ready (Some (high * 256 + low)) ∷ commands s

-- The bytes after an item, by those after its `I`; all of them where it is cut short.
abbrev pub after_item : List ℕ → List ℕ → List ℕ
after_item all [] = all
after_item all (high ∷ []) = all
after_item all (high ∷ low ∷ s) = s

-- The bytes after the first command; all of them where it is a fault.
abbrev pub after_command : List ℕ → List ℕ
after_command [] = []
after_command (byte ∷ s) = by_command byte s s (after_item (byte ∷ s) s) (byte ∷ s)
