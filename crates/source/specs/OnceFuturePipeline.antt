-- OnceFuture as a source.
use Rattle.std.specs.Prelude.{◌≡◌, List, Some, None, Option}
use Rattle.stream.specs.declared.poll.Poll.TheVariants.{Ready, Pending}
use Rattle.stream.specs.declared.future.Future.{Ghosts as Futures}
use Rattle.stream.specs.Answers.{Answer}
use Rattle.stream.specs.Futures.{FuturePolled}
use Rattle.stream.specs.Pipelines.{Pipeline, source}
use Rattle.source.specs.declared.once_future.OnceFuture.{OnceFuture}
use Rattle.source.specs.OnceFutureRule.{once_waited}

module _ {U B : Type 0} (future : Futures U B) where
  -- The answers of a OnceFuture: those of the future that it holds, if any.
  abbrev pub once_future_answers : OnceFuture U → List (Answer B)
  once_future_answers o = once_waited future.waits future.output o.future

  -- It is the source of a pipeline, since what its future polls is its own; its item is seen as the future's output is.
  abbrev pub once_future_pipeline : Pipeline once_future_answers
  once_future_pipeline = source once_future_answers future.outputs

  -- One poll of a slot for a future, by what it held, what was answered and what it holds afterwards.
  pub data SlotPolled (before : Option U) (r : Answer B) (after : Option U) : Type 0 where
    -- It is empty and stays so.
    empty : before ≡ None → r ≡ Ready None → after ≡ None → SlotPolled before r after
    -- The future was polled once and waited: it is kept, with a wait less to come.
    waiting : (u v : U) → before ≡ Some u → FuturePolled future.waits future.output future.took u Pending v → r ≡ Pending → after ≡ Some v → SlotPolled before r after
    -- The future was polled once and answered its output: it is dropped.
    given : (u v : U) (b : B) → before ≡ Some u → FuturePolled future.waits future.output future.took u (Ready b) v → r ≡ Ready (Some b) → after ≡ None → SlotPolled before r after
