-- Many polls of a pipeline.
use Rattle.std.specs.Prelude.{ℕ, ◌+◌, List}
use Rattle.stream.specs.Answers.{Answer, waits_in}
use Rattle.stream.specs.Pipelines.{Pipeline, Polled}

-- Some polls, one after another, from the state s to the state t, and the waits that they answered in all. At each poll as many waits were taken from below as it answered.
pub data Run {S A : Type 0} (answers : S → List (Answer A)) (pipeline : Pipeline answers) (s : S) : ℕ → ℕ → S → Type 0 where
  start : Run answers pipeline s 0 0 s
  poll : {t u : S} {n w : ℕ} {r : Answer A} → Run answers pipeline s n w t → Polled answers pipeline t r u → Run answers pipeline s (n + 1) (w + waits_in r) u

-- Some number of polls, from s to t, took w waits in all.
abbrev pub TookByPolls : {S A : Type 0} (answers : S → List (Answer A)) (pipeline : Pipeline answers) → S → ℕ → S → Type 0
TookByPolls answers pipeline s w t = (n : ℕ) × Run answers pipeline s n w t
