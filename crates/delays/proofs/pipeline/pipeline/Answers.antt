use Rattle.std.proofs.Common.{◌≡◌, ℕ, List, Some, sym, refl, subst, ap₂}
use Rattle.stream.specs.Answers.{Answer, Agree}
use Rattle.stream.specs.Itemwise.{item_if}
use Rattle.stream.specs.Itemwise.Made.{item}
use Rattle.stream.proofs.Behaving.{agrees_with_itself, behaviour_of, itemwise_by_behaviour}
use Rattle.source.specs.DelayFutureMeaning.{delay_output, delay_waits}
use Rattle.source.specs.OnceRule.{once}
use Rattle.transform.specs.MapRule.{mapped}
use Rattle.select.specs.FilterRule.{filtered}
use Rattle.limit.specs.SkipRule.{skipped}
use Rattle.combine.specs.EnumerateRule.{enumerated}
use Rattle.nest.specs.ThenPipeline.{SameOutput}
use Rattle.nest.specs.ThenRule.{thened}
use Rattle.nest.proofs.Behaving.{seen_future, thened_by_behaviour}
use Rattle.delays.specs.Callbacks.{delays, is_odd, odd_next, slowly, slowly_next, total_next, total_of}
use Rattle.delays.specs.Pipeline.{added, chosen, delayed, futures}
use Rattle.delays.proofs.pipeline.pipeline.Goals as goal

pub returns-clause-alike : goal.returns-clause-alike
returns-clause-alike c =
    let odds_list : List (Answer ℕ) → List (Answer ℕ) = λ xs. filtered is_odd odd_next (record {}) (skipped 1 xs) in
    let sums_list : List (Answer ℕ) → List (Answer ℕ) = λ xs. mapped total_of total_next (record { sum = 0 }) (enumerated 0 (odds_list xs)) in
    λ ys h.
    let skips = c.skip.ensures.alike ys h in
    let filters =
    subst (chosen.pipeline.alike c.filter.result) (itemwise_by_behaviour is_odd odd_next (λ o. o) item_if item_if (λ o a. refl) (record {}) (skipped 1 ys))
    (c.filter.ensures.alike (skipped 1 ys) (behaviour_of is_odd odd_next (λ o. o) (record {})) skips (agrees_with_itself is_odd odd_next (λ o. o) (λ a b. a ≡ b) (λ a b e. e) (λ o p. o ≡ p) (λ o. refl) (record {}))) in
    let enumerates = c.enumerate.ensures.alike (odds_list ys) filters in
    let maps =
    subst (added.pipeline.alike c.map.result) (itemwise_by_behaviour total_of total_next (λ o. o) (λ o a. item o) (λ o a. item o) (λ o a. refl) (record { sum = 0 }) (enumerated 0 (odds_list ys)))
    (c.map.ensures.alike (enumerated 0 (odds_list ys)) (behaviour_of total_of total_next (λ o. o) (record { sum = 0 })) enumerates (agrees_with_itself total_of total_next (λ o. o) (λ a b. (a.0 ≡ b.0) × (a.1 ≡ b.1)) (λ a b e. ap₂ (λ x y. (x, y)) e.0 e.1) (λ o p. o ≡ p) (λ o. refl) (record { sum = 0 }))) in
    let see = seen_future slowly slowly_next delay_waits delay_output in
    let waits =
    subst (delayed.pipeline.alike c.then.result) (thened_by_behaviour slowly slowly_next delay_waits delay_output (record {}) (sums_list ys))
    (c.then.ensures.alike (sums_list ys) (behaviour_of slowly slowly_next see (record {})) maps (agrees_with_itself slowly slowly_next see (λ a b. a ≡ b) (λ a b e. e) (SameOutput added delays futures) (λ o. refl) (record {}))) in
    let one : Agree (λ a b. a ≡ b) (once c.new.result.value) (once (Some 7)) = subst (λ o. Agree (λ a b. a ≡ b) (once o) (once (Some 7))) (sym c.new.ensures) (refl, tt) in
    let chains = c.chain.ensures.alike (thened slowly slowly_next delay_waits delay_output (record {}) (sums_list ys)) (once (Some 7)) (once (Some 7)) waits one ((λ a e. e), tt) in
    c.take.ensures.alike _ chains
