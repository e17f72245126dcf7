-- One poll of the readings, and its line.
use Rattle.std.proofs.Common.{◌≡◌, ℕ, zero, suc, ◌+◌, ◌≤◌, true, false, nat_lt, List, [], ◌∷◌, ◌++◌, length, ℤ, Some, None, Ok, Err, Option, Result, refl, arith, length-append, rules}
use Rattle.stream.specs.declared.poll.Poll.TheVariants.{Ready, Pending}
use Rattle.stream.specs.Answers.{Answer}
use Rattle.stream.specs.declared.stream.Stream.{Ghosts as Streams}
use Rattle.consume.specs.declared.step.Step.{Step}
use Rattle.consume.specs.declared.step.Step.TheVariants.{Wait, Full, Done, Fault}
use Rattle.consume.specs.declared.step.Ended.{Ended}
use Rattle.consume.specs.Polls.{Stepped}
use Rattle.consume.specs.Puts.{Put, to_first, to_second}
use Rattle.consume.specs.Draws.{After, Ending, drawing, polling, wait, full, done, fault}
use Rattle.fallible.specs.declared.try_collect.TryCollectFuture.{TryCollectFuture}
use Rattle.fallible.specs.TryCollects.{try_collects, one_kept}
use Rattle.reading.specs.declared.fault.Fault.{Fault as ReadingFault}
use Rattle.gateway.specs.declared.line.End.{End}
use Rattle.gateway.specs.declared.line.End.TheVariants.{Wait as WaitEnd, Full as FullEnd, Done as DoneEnd, Fault as FaultEnd}
use Rattle.gateway.specs.Lines.{Said, polled, lines_from}

-- the readings that come first in the next poll
abbrev pub first_watts : List (Put ℤ ℤ) → List ℤ
first_watts [] = []
first_watts (to_first w ∷ ps) = w ∷ []
first_watts (to_second w ∷ ps) = []

-- the line of a poll that ended so, and the lines after it
abbrev pub after : {K : Type 0} → ℕ → Ending → After (Option ReadingFault) (Result ℤ ReadingFault) ℤ ℤ (List ℤ) K → List Said
after n wait z = polled n WaitEnd z.held ∷ lines_from (n + 1) (first_watts z.kept) z.answers
after n full z = polled n FullEnd z.held ∷ lines_from (n + 1) (first_watts z.kept) z.answers
after n done z = polled n DoneEnd z.held ∷ []
after n fault z = elim z.state [ None ↦ [] | Some f ↦ polled n (FaultEnd f) z.held ∷ [] ]

-- how many answers a poll has taken at least: one, if it comes back
abbrev pub taken : Ending → ℕ
taken wait = 1
taken full = 1
taken done = 0
taken fault = 0

-- the lines ls are that of the poll z, whose number is n, and those after it; and of b answers it has left fewer
pub record OnePoll {K : Type 0} (n : ℕ) (ls : List Said) (b : ℕ) (z : After (Option ReadingFault) (Result ℤ ReadingFault) ℤ ℤ (List ℤ) K) : Type 0 where
  pub lines : ls ≡ after n z.ending z
  pub fewer : length z.answers + taken z.ending ≤ b

module _ {K : Type 0} (g : K → ℤ → K) (k : K) (j : ℕ) where
  -- a poll that reads on with ws in the row and m places left
  one_poll : (n : ℕ) (xs : List (Answer (Result ℤ ReadingFault))) (ws : List ℤ) (m : ℕ) → length ws + m ≡ 4 → OnePoll n (lines_from n ws xs) (length xs) (drawing (try_collects {S = Unit {0}}).rule (λ h w. h ++ (w ∷ [])) g None xs ws m k j)
  one_poll n [] ws m e = record { lines = refl; fewer = omega arith }
  one_poll n (Pending ∷ xs) ws m e = record { lines = refl; fewer = omega arith }
  one_poll n (Ready None ∷ xs) ws m e = record { lines = refl; fewer = omega arith }
  one_poll n (Ready (Some (Ok w)) ∷ xs) ws zero e =
      let b : nat_lt (length ws) 4 ≡ false = search rules in
      record { lines = rw b; fewer = omega arith }
  one_poll n (Ready (Some (Ok w)) ∷ xs) ws (suc m) e =
      let b : nat_lt (length ws) 4 ≡ true = search rules in
      let p = one_poll n xs (ws ++ (w ∷ [])) m (omega (arith, length-append ws (w ∷ []))) in
      record { lines = rw b p.lines; fewer = omega (arith, p.fewer) }
  one_poll n (Ready (Some (Err f)) ∷ xs) ws m e = record { lines = refl; fewer = omega arith }

  -- a whole poll that finds the row h empty
  pub whole_poll : (n : ℕ) (o : Option ℤ) (xs : List (Answer (Result ℤ ReadingFault))) (h : List ℤ) (m : ℕ) → h ≡ [] → m ≡ 4 → OnePoll n (lines_from n (first_watts (one_kept o)) xs) (length xs) (polling (try_collects {S = Unit {0}}).rule (λ h w. h ++ (w ∷ [])) g (one_kept o) None xs h m k j)
  whole_poll n None xs [] m e i = one_poll n xs [] m (omega arith)
  whole_poll n (Some w) xs [] (suc m) e i = one_poll n xs (w ∷ []) m (omega arith)
  whole_poll n (Some w) xs [] zero e i = absurd (omega arith)
  whole_poll n o xs (w ∷ h) m e i = absurd (cc)

module _ {T : Type 0} (P : Streams T (Result ℤ ReadingFault)) where
  -- the lines that a consumer still gives, from poll n on
  abbrev pub lines_left : ℕ → TryCollectFuture T ℤ → List Said
  lines_left n c = lines_from n (first_watts (one_kept c.kept)) (P.answers c.stream)

  -- the same where it came back, and none where it is gone
  abbrev pub lines_on : ℕ → Option (TryCollectFuture T ℤ) → List Said
  lines_on n None = []
  lines_on n (Some c) = lines_left n c

  abbrev pub Fewer : Option (TryCollectFuture T ℤ) → ℕ → Type 0
  Fewer None b = Unit {0}
  Fewer (Some c) b = length (P.answers c.stream) + 1 ≤ b

  -- how a poll ended, and the consumer if it came back
  abbrev pub Told : Step (TryCollectFuture T ℤ) (Ended (Unit {0}) T (Unit {0})) (Ended ReadingFault T (Unit {0})) → End × Option (TryCollectFuture T ℤ) → Type 0
  Told r p = elim r [ Wait c ↦ p ≡ (WaitEnd, Some c) | Full c ↦ p ≡ (FullEnd, Some c) | Done d ↦ p ≡ (DoneEnd, None) | Fault d ↦ p ≡ (FaultEnd d.value, None) ]

  -- the lines ls, of a consumer that had b answers to come, are that of a poll and those after it
  pub record Lined (n : ℕ) (ws : List ℤ) (ls : List Said) (b : ℕ) (p : End × Option (TryCollectFuture T ℤ)) : Type 0 where
    pub lines : ls ≡ polled n p.0 ws ∷ lines_on (n + 1) p.1
    pub fewer : Fewer p.1 b

  pub lined : {K : Type 0} (n : ℕ) (ws : List ℤ) (ls : List Said) (b : ℕ) (z : After (Option ReadingFault) (Result ℤ ReadingFault) ℤ ℤ (List ℤ) K) (r : Step (TryCollectFuture T ℤ) (Ended (Unit {0}) T (Unit {0})) (Ended ReadingFault T (Unit {0}))) (p : End × Option (TryCollectFuture T ℤ)) → OnePoll n ls b z → Stepped try_collects P z r → Told r p → ws ≡ z.held → Lined n ws ls b p
  lined n ws ls b z (Wait c) p o s t w = rw (t, w) record { lines = rw (o.lines, s.0, ← s.1.kept, ← s.1.answers); fewer = omega (arith, rw (s.0, ← s.1.answers) at o.fewer) }
  lined n ws ls b z (Full c) p o s t w = rw (t, w) record { lines = rw (o.lines, s.0, ← s.1.kept, ← s.1.answers); fewer = omega (arith, rw (s.0, ← s.1.answers) at o.fewer) }
  lined n ws ls b z (Done d) p o s t w = rw (t, w) record { lines = rw (o.lines, s.0); fewer = tt }
  lined n ws ls b z (Fault d) p o s t w = rw (t, w) record { lines = rw (o.lines, s.0, s.1); fewer = tt }
