-- The pipeline as one rule on lists.
use Rattle.std.specs.Prelude.{ℕ, List, Some}
use Rattle.stream.specs.Answers.{Answer}
use Rattle.source.specs.DelayFutureMeaning.{delay_output, delay_waits}
use Rattle.source.specs.OnceRule.{once}
use Rattle.transform.specs.MapRule.{mapped}
use Rattle.select.specs.FilterRule.{filtered}
use Rattle.limit.specs.SkipRule.{skipped}
use Rattle.limit.specs.TakeRule.{taken}
use Rattle.combine.specs.ChainRule.{chained}
use Rattle.combine.specs.EnumerateRule.{enumerated}
use Rattle.nest.specs.ThenRule.{thened}
use Rattle.delays.specs.Callbacks.{is_odd, odd_next, slowly, slowly_next, total_next, total_of}

-- The first word is skipped; of the rest the odd ones stay, are numbered and added up; each sum comes after up to two waits; a 7 follows; at most nine items are passed on.
abbrev pub summed : List (Answer ℕ) → List (Answer ℕ)
summed words =
    taken 9 (chained
    (thened slowly slowly_next delay_waits delay_output (record {})
    (mapped total_of total_next (record { sum = 0 })
    (enumerated 0
    (filtered is_odd odd_next (record {})
    (skipped 1 words)))))
    (once (Some 7)))
