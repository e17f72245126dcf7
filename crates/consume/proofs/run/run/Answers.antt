use Rattle.std.proofs.Common.{◌≡◌, ℕ, ◌+◌, sym, refl, ◌∙◌, add-one, arith, rules}
use Rattle.stream.specs.declared.stream.Stream.{Ghosts as Streams}
use Rattle.sink.specs.declared.sink.Sink.{Ghosts as Sinks}
use Rattle.consume.specs.declared.step.Ended.{Ended}
use Rattle.consume.specs.declared.step.Step.{Step}
use Rattle.consume.specs.declared.step.Step.TheVariants.{Wait, Full, Done, Fault}
use Rattle.consume.specs.Meanings.{Meaning}
use Rattle.consume.specs.Runs.{Stopped, Reported, fulls_of}
use Rattle.consume.specs.Runs.Waited.{none, again}
use Rattle.consume.proofs.run.run.Goals as goal

pub loop-waits-init : goal.loop-waits-init
loop-waits-init g c = none

pub loop-waits-preserved : goal.loop-waits-preserved
loop-waits-preserved g c = rw add-one (again c.loop-waits.invariant c.in-Wait.ensures)

-- A poll that did not answer wait is the last. (The numbers come by equations, so that code which gets one wrong is refused for that number.)
stops : {C T I A B O E F X Y : Type 0} {M : Meaning C T I A B O E F} {P : Streams T I} {U : Sinks X A} {V : Sinks Y B} {c : C} {x x' : X} {y y' : Y} {w q n m p : ℕ} (r : Step C (Ended O T F) (Ended E T F)) → ((k : C) → r ≡ Wait k → ⊥) → Stopped M P U V c x y q w r x' y' → m ≡ w → p ≡ w + 1 → n ≡ fulls_of r → Reported M P U V c x y q (record { polls = p; waits = m; fulls = n; end = r }) x' y'
stops (Wait k) h s d e f = absurd (h k refl)
stops {w = w} (Full k) h s d e f = rw d (record { end = s; polls = e ∙ add-one w; fulls = f })
stops {w = w} (Done o) h s d e f = rw d (record { end = s; polls = e ∙ add-one w; fulls = f })
stops {w = w} (Fault o) h s d e f = rw d (record { end = s; polls = e ∙ add-one w; fulls = f })

pub returns-in_default : goal.returns-in_default
returns-in_default g c =
    stops _ c.in_default.not-Wait (record { k = _; u = _; v = _; waited = c.loop-waits.invariant; last = c.poll.ensures; within = c.loop-waits-test.true }) (search rules) (search rules) (cc)

pub returns : goal.returns
returns g c =
    let all : c.loop-waits.waits ≡ c.args.polls = omega arith in
    record { end = (refl, rw (sym all) c.loop-waits.invariant); polls = refl; fulls = refl }
