-- The pipeline's type, adapter by adapter.
use Rattle.std.specs.Prelude.{ℕ}
use Rattle.stream.specs.declared.future.Future.{Ghosts as Futures}
use Rattle.stream.specs.declared.stream.Stream.{Ghosts as Streams}
use Rattle.stream.specs.Futures.{own_waits}
use Rattle.stream.specs.Views.{plain}
use Rattle.script.specs.declared.script.Script.{Script}
use Rattle.script.specs.Sources.{script_answers, script_pipeline}
use Rattle.source.specs.declared.delay_future.DelayFuture.{DelayFuture}
use Rattle.source.specs.declared.once.Once.{Once}
use Rattle.source.specs.DelayFutureMeaning.{delay_output, delay_waits}
use Rattle.source.specs.OncePipeline.{once_answers, once_pipeline}
use Rattle.transform.specs.declared.map.Map.{Map}
use Rattle.transform.specs.MapPipeline.{map_answers, map_pipeline}
use Rattle.select.specs.declared.filter.Filter.{Filter}
use Rattle.select.specs.FilterPipeline.{filter_answers, filter_pipeline}
use Rattle.limit.specs.declared.skip.Skip.{Skip}
use Rattle.limit.specs.declared.take.Take.{Take}
use Rattle.limit.specs.SkipPipeline.{skip_answers, skip_pipeline}
use Rattle.limit.specs.TakePipeline.{take_answers, take_pipeline}
use Rattle.combine.specs.declared.chain.Chain.{Chain}
use Rattle.combine.specs.declared.enumerate.Enumerate.{Enumerate}
use Rattle.combine.specs.ChainPipeline.{chain_answers, chain_pipeline}
use Rattle.combine.specs.EnumeratePipeline.{enumerate_answers, enumerate_pipeline}
use Rattle.nest.specs.declared.then.Then.{Then}
use Rattle.nest.specs.ThenPipeline.{then_answers, then_pipeline}
use Rattle.delays.specs.declared.callbacks.Odd.{Odd}
use Rattle.delays.specs.declared.callbacks.Slowly.{Slowly}
use Rattle.delays.specs.declared.callbacks.Total.{Total}
use Rattle.delays.specs.Callbacks.{delays, odds, totals}

-- The source,
abbrev pub words : Streams Script ℕ
words = record { answers = script_answers; pipeline = script_pipeline }

-- without its first word,
abbrev pub later : Streams (Skip Script) ℕ
later = record { answers = skip_answers words; pipeline = skip_pipeline words }

-- of which the odd ones
abbrev pub chosen : Streams (Filter (Skip Script) Odd) ℕ
chosen = record { answers = filter_answers later odds; pipeline = filter_pipeline later odds }

-- are numbered
abbrev pub numbered : Streams (Enumerate (Filter (Skip Script) Odd)) (ℕ × ℕ)
numbered = record { answers = enumerate_answers chosen; pipeline = enumerate_pipeline chosen }

-- and added up;
abbrev pub added : Streams (Map (Enumerate (Filter (Skip Script) Odd)) Total) ℕ
added = record { answers = map_answers numbered totals; pipeline = map_pipeline numbered totals }

-- each sum comes by a future
abbrev pub futures : Futures (DelayFuture ℕ) ℕ
futures = record { waits = delay_waits; output = delay_output; outputs = plain; took = own_waits delay_waits }

abbrev pub delayed : Streams (Then (Map (Enumerate (Filter (Skip Script) Odd)) Total) Slowly (DelayFuture ℕ)) ℕ
delayed = record { answers = then_answers added delays futures; pipeline = then_pipeline added delays futures }

-- and is followed by one more item;
abbrev pub last_item : Streams (Once ℕ) ℕ
last_item = record { answers = once_answers; pipeline = once_pipeline }

abbrev pub followed : Streams (Chain (Then (Map (Enumerate (Filter (Skip Script) Odd)) Total) Slowly (DelayFuture ℕ)) (Once ℕ)) ℕ
followed = record { answers = chain_answers delayed last_item; pipeline = chain_pipeline delayed last_item }

-- of all of which the first are taken.
abbrev pub Whole : Type 0
Whole = Take (Chain (Then (Map (Enumerate (Filter (Skip Script) Odd)) Total) Slowly (DelayFuture ℕ)) (Once ℕ))

abbrev pub whole : Streams Whole ℕ
whole = record { answers = take_answers followed; pipeline = take_pipeline followed }
