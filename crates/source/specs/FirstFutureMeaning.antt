-- What a FirstFuture means.
use Rattle.std.specs.Prelude.{◌≡◌, ℕ, Option}
use Rattle.stream.specs.declared.poll.Poll.TheVariants.{Ready, Pending}
use Rattle.stream.specs.declared.stream.Stream.{Ghosts as Streams}
use Rattle.stream.specs.Answers.{Answer}
use Rattle.stream.specs.Pipelines.{Polled}
use Rattle.source.specs.declared.first_future.FirstFuture.{FirstFuture}
use Rattle.source.specs.FirstFutureRule.{settled_from, waits_from}

module _ {S A : Type 0} (below : Streams S A) where
  -- Its waits are those of its stream's list before the first settled answer.
  abbrev pub first_future_waits : FirstFuture S A → ℕ
  first_future_waits f = waits_from f.answer (below.answers f.stream)

  -- Its output is the first settled answer of its stream.
  abbrev pub first_future_output : FirstFuture S A → Option A
  first_future_output f = settled_from f.answer (below.answers f.stream)

  -- What a poll of it does to its stream, which goes from s to t, by what was answered last: after a wait the stream is polled once and answers r, and after any other answer it stays as it was.
  abbrev pub PolledAtWait : Answer A → S → Answer A → S → Type 0
  PolledAtWait Pending s r t = Polled below.answers below.pipeline s r t
  PolledAtWait (Ready o) s r t = t ≡ s
