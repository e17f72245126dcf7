-- Many polls of a consumer with the same sinks.
use Rattle.std.specs.Prelude.{◌≡◌, ℕ, suc, ◌<◌}
use Rattle.sink.specs.declared.sink.Sink.{Ghosts as Sinks}
use Rattle.stream.specs.declared.stream.Stream.{Ghosts as Streams}
use Rattle.consume.specs.declared.run.Report.{Report}
use Rattle.consume.specs.declared.step.Step.{Step}
use Rattle.consume.specs.declared.step.Step.TheVariants.{Wait, Full, Done, Fault}
use Rattle.consume.specs.declared.step.Ended.{Ended}
use Rattle.consume.specs.Meanings.{Meaning}
use Rattle.consume.specs.Polls.{Polled}

-- How many fulls a step is.
abbrev pub fulls_of : {C D F : Type 0} → Step C D F → ℕ
fulls_of (Wait c) = 0
fulls_of (Full c) = 1
fulls_of (Done d) = 0
fulls_of (Fault d) = 0

module _ {C T I A B O E F X Y : Type 0} (M : Meaning C T I A B O E F) (P : Streams T I) (U : Sinks X A) (V : Sinks Y B) where
  -- Polls one after another that all answered wait: so many, from a consumer and two sinks to what became of them.
  pub data Waited (c : C) (x : X) (y : Y) : ℕ → C → X → Y → Type 0 where
    none : Waited c x y 0 c x y
    again : {n : ℕ} {k k' : C} {u u' : X} {v v' : Y} → Waited c x y n k u v → Polled M P U V k u v (Wait k') u' v' → Waited c x y (suc n) k' u' v'

  -- A last poll, after some that answered wait, whose number is at most q.
  pub record Stopped (c : C) (x : X) (y : Y) (q : ℕ) (w : ℕ) (r : Step C (Ended O T F) (Ended E T F)) (x' : X) (y' : Y) : Type 0 where
    pub k : C
    pub u : X
    pub v : Y
    pub waited : Waited c x y w k u v
    pub last : Polled M P U V k u v r x' y'
    pub within : w < q

  -- How a run of at most q polls came to its end, after w that answered wait: all polls were used up, or one answered full, done or fault.
  abbrev pub CameTo : C → X → Y → ℕ → ℕ → Step C (Ended O T F) (Ended E T F) → X → Y → Type 0
  CameTo c x y q w (Wait k) x' y' = (w ≡ q) × Waited c x y q k x' y'
  CameTo c x y q w (Full k) x' y' = Stopped c x y q w (Full k) x' y'
  CameTo c x y q w (Done d) x' y' = Stopped c x y q w (Done d) x' y'
  CameTo c x y q w (Fault d) x' y' = Stopped c x y q w (Fault d) x' y'

  -- The number of the polls: those that answered wait, and the last unless it did so too.
  abbrev pub polls_made : ℕ → Step C (Ended O T F) (Ended E T F) → ℕ
  polls_made w (Wait k) = w
  polls_made w (Full k) = suc w
  polls_made w (Done d) = suc w
  polls_made w (Fault d) = suc w

  -- A run of at most q polls reports its polls, waits and fulls, and ends as it came to.
  pub record Reported (c : C) (x : X) (y : Y) (q : ℕ) (r : Report C (Ended O T F) (Ended E T F)) (x' : X) (y' : Y) : Type 0 where
    pub end : CameTo c x y q r.waits r.end x' y'
    pub polls : r.polls ≡ polls_made r.waits r.end
    pub fulls : r.fulls ≡ fulls_of r.end
