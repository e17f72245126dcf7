-- One poll of a consumer as a function: on what it keeps, its state and the answers of its stream, and on what the sinks hold.
use Rattle.std.specs.Prelude.{ℕ, List, [], ◌∷◌, Some, None}
use Rattle.stream.specs.declared.poll.Poll.TheVariants.{Ready, Pending}
use Rattle.stream.specs.Answers.{Answer}
use Rattle.consume.specs.Puts.{Put, putting}
use Rattle.consume.specs.Meanings.{Rule, Verdict, goes_on, stops, breaks}

-- How a poll ends.
pub data Ending : Type 0 where
  wait : Ending
  full : Ending
  done : Ending
  fault : Ending

-- After a poll: how it ended, what the consumer keeps, the state that it has come to, the answers left of its stream, and what each sink holds and its places left.
pub record After (S I A B H K : Type 0) : Type 0 where
  pub ending : Ending
  pub kept : List (Put A B)
  pub state : S
  pub answers : List (Answer I)
  pub held : H
  pub left : ℕ
  pub held₂ : K
  pub left₂ : ℕ

-- A poll that ended so.
abbrev pub ended : {S I A B H K : Type 0} → Ending → List (Put A B) → S → List (Answer I) → H → ℕ → K → ℕ → After S I A B H K
ended e ps s xs h m k n = record { ending = e; kept = ps; state = s; answers = xs; held = h; left = m; held₂ = k; left₂ = n }

-- One of three, by a verdict.
abbrev pub by_verdict : {Z : Type 0} → Verdict → Z → Z → Z → Z
by_verdict goes_on a b c = a
by_verdict stops a b c = b
by_verdict breaks a b c = c

module _ {S I A B H K : Type 0} (rule : Rule S I A B) (f : H → A → H) (g : K → B → K) where
  -- Reads on with nothing kept: a wait ends the poll, None makes it done, and at an item the rule says what is put and whether the poll goes on.
  abbrev pub drawing : S → List (Answer I) → H → ℕ → K → ℕ → After S I A B H K
  drawing s [] h m k n = ended done [] s [] h m k n
  drawing s (Pending ∷ xs) h m k n = ended wait [] s xs h m k n
  drawing s (Ready None ∷ xs) h m k n = ended done [] s xs h m k n
  drawing s (Ready (Some x) ∷ xs) h m k n =
      by_verdict (rule.verdict s x)
      (putting f g (drawing (rule.next s x) xs) (λ ps. ended full ps (rule.next s x) xs) (rule.puts s x) h m k n)
      (ended done [] (rule.next s x) xs h m k n)
      (ended fault [] (rule.next s x) xs h m k n)

  -- A whole poll: what is kept is put first.
  abbrev pub polling : List (Put A B) → S → List (Answer I) → H → ℕ → K → ℕ → After S I A B H K
  polling ps s xs h m k n = putting f g (drawing s xs) (λ qs. ended full qs s xs) ps h m k n
