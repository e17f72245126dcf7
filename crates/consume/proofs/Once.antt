-- A run of one poll is that poll.
use Rattle.std.proofs.Common.{◌≡◌, ℕ, ◌<◌, refl, arith}
use Rattle.stream.specs.declared.stream.Stream.{Ghosts as Streams}
use Rattle.sink.specs.declared.sink.Sink.{Ghosts as Sinks}
use Rattle.consume.specs.declared.run.Report.{Report}
use Rattle.consume.specs.declared.step.Step.{Step}
use Rattle.consume.specs.declared.step.Step.TheVariants.{Wait, Full, Done, Fault}
use Rattle.consume.specs.declared.step.Ended.{Ended}
use Rattle.consume.specs.Meanings.{Meaning}
use Rattle.consume.specs.Polls.{Polled}
use Rattle.consume.specs.Runs.{Waited, CameTo, Reported}
use Rattle.consume.specs.Runs.Waited.{none, again}

module _ {C T I A B O E F X Y : Type 0} (M : Meaning C T I A B O E F) (P : Streams T I) (U : Sinks X A) (V : Sinks Y B) (c : C) (x : X) (y : Y) where
  -- the last of no polls that answered wait, and the last of one
  after_none : {n : ℕ} {k : C} {u x' : X} {v y' : Y} {r : Step C (Ended O T F) (Ended E T F)} → Waited M P U V c x y n k u v → n < 1 → Polled M P U V k u v r x' y' → Polled M P U V c x y r x' y'
  after_none none l p = p
  after_none (again w q) l p = absurd (omega arith)

  one_wait : {n : ℕ} {k : C} {u : X} {v : Y} → Waited M P U V c x y n k u v → n ≡ 1 → Polled M P U V c x y (Wait k) u v
  one_wait none e = absurd (omega arith)
  one_wait (again {n = n} w p) e = after_none w (omega arith) p

  came : (w : ℕ) (r : Step C (Ended O T F) (Ended E T F)) (x' : X) (y' : Y) → CameTo M P U V c x y 1 w r x' y' → Polled M P U V c x y r x' y'
  came w (Wait k) x' y' h = one_wait h.1 refl
  came w (Full k) x' y' h = after_none h.waited h.within h.last
  came w (Done d) x' y' h = after_none h.waited h.within h.last
  came w (Fault d) x' y' h = after_none h.waited h.within h.last

  pub once : (r : Report C (Ended O T F) (Ended E T F)) (x' : X) (y' : Y) → Reported M P U V c x y 1 r x' y' → Polled M P U V c x y r.end x' y'
  once r x' y' h = came r.waits r.end x' y' h.end
