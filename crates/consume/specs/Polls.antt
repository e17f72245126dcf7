-- What a poll of a consumer does.
use Rattle.std.specs.Prelude.{◌≡◌, ℕ, ◌≤◌}
use Rattle.sink.specs.declared.sink.Sink.{Ghosts as Sinks}
use Rattle.stream.specs.declared.stream.Stream.{Ghosts as Streams}
use Rattle.stream.specs.Runs.{Run}
use Rattle.consume.specs.declared.step.Step.{Step}
use Rattle.consume.specs.declared.step.Step.TheVariants.{Wait, Full, Done, Fault}
use Rattle.consume.specs.declared.step.Ended.{Ended}
use Rattle.consume.specs.Meanings.{Meaning}
use Rattle.consume.specs.Draws.{After, wait, full, done, fault, polling}

-- How many waits a step is.
abbrev pub waits_of : {C D F : Type 0} → Step C D F → ℕ
waits_of (Wait c) = 1
waits_of (Full c) = 0
waits_of (Done d) = 0
waits_of (Fault d) = 0

-- The sink x after some puts or none, as x': its places are of the same origin, none came free, and if none was taken it is unchanged.
pub record Since {X A : Type 0} (F : Sinks X A) (x x' : X) : Type 0 where
  pub origin : F.origin x' ≡ F.origin x
  pub at_most : F.left x' ≤ F.left x
  pub untouched : F.left x' ≡ F.left x → x' ≡ x

-- The sink x became x' by the puts of a poll, and now holds h and has m places left.
pub record Became {X A : Type 0} (F : Sinks X A) (x x' : X) (h : F.Held) (m : ℕ) : Type 0 where
  pub holds : F.held x' ≡ h
  pub places : F.left x' ≡ m
  pub since : Since F x x'

-- Some polls of a stream, from one state to another, which took w waits from the sources below.
pub record Drew {T I : Type 0} (P : Streams T I) (s : T) (w : ℕ) (t : T) : Type 0 where
  pub polls : ℕ
  pub run : Run P.answers P.pipeline s polls w t

module _ {C T I A B O E F : Type 0} (M : Meaning C T I A B O E F) (P : Streams T I) where
  -- The stream that a step holds or hands back.
  abbrev pub stream_of : Step C (Ended O T F) (Ended E T F) → T
  stream_of (Wait c) = M.stream c
  stream_of (Full c) = M.stream c
  stream_of (Done d) = d.stream
  stream_of (Fault d) = d.stream

  -- The consumer c is as the poll z left it: what it keeps, its state, and what is left of its stream.
  pub record Left {H K : Type 0} (z : After M.State I A B H K) (c : C) : Type 0 where
    pub kept : M.kept c ≡ z.kept
    pub state : M.state c ≡ z.state
    pub answers : P.answers (M.stream c) ≡ z.answers

  -- What a poll that ended as z answers: wait and full with the consumer, done and fault with what it hands back.
  abbrev pub Stepped : {H K : Type 0} → After M.State I A B H K → Step C (Ended O T F) (Ended E T F) → Type 0
  Stepped z (Wait c) = (z.ending ≡ wait) × Left z c
  Stepped z (Full c) = (z.ending ≡ full) × Left z c
  Stepped z (Done d) = (z.ending ≡ done) × M.done z.state d.value d.callback × (P.answers d.stream ≡ z.answers)
  Stepped z (Fault d) = (z.ending ≡ fault) × M.fault z.state d.value d.callback × (P.answers d.stream ≡ z.answers)

  module _ {X Y : Type 0} (U : Sinks X A) (V : Sinks Y B) where
    -- A poll of c with the sinks x and y, as a function.
    abbrev pub poll_of : C → X → Y → After M.State I A B U.Held V.Held
    poll_of c x y = polling M.rule U.makes V.makes (M.kept c) (M.state c) (P.answers (M.stream c)) (U.held x) (U.left x) (V.held y) (V.left y)

    -- A poll of the consumer c with the sinks x and y, which became x' and y', answered r:
    pub record Polled (c : C) (x : X) (y : Y) (r : Step C (Ended O T F) (Ended E T F)) (x' : X) (y' : Y) : Type 0 where
      -- each sink is as the function says;
      pub first_sink : Became U x x' (poll_of c x y).held (poll_of c x y).left
      pub second_sink : Became V y y' (poll_of c x y).held₂ (poll_of c x y).left₂
      -- so is the answer, and what the consumer keeps, its state and its stream;
      pub step : Stepped (poll_of c x y) r
      -- and its own polls of its stream took one wait if it answered wait, and else none.
      pub took : Drew P (M.stream c) (waits_of r) (stream_of r)
