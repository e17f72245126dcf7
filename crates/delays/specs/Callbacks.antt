-- What the callbacks of the pipeline mean.
use Rattle.std.specs.Prelude.{ℕ, ◌+◌, ◌%◌, ◌^◌, Bool, ◌==◌}
use Rattle.stream.specs.declared.callback.Callback.{Ghosts as Callbacks}
use Rattle.stream.specs.Views.{plain}
use Rattle.source.specs.declared.delay_future.DelayFuture.{DelayFuture}
use Rattle.delays.specs.declared.callbacks.Odd.{Odd}
use Rattle.delays.specs.declared.callbacks.Slowly.{Slowly}
use Rattle.delays.specs.declared.callbacks.Total.{Total}

-- Whether a word is odd.
abbrev pub is_odd : Odd → ℕ → Bool
is_odd f word = word % 2 == 1

abbrev pub odd_next : Odd → ℕ → Odd
odd_next f word = f

-- The sum so far, with a number and a word, modulo 2^64.
abbrev pub total_of : Total → ℕ × ℕ → ℕ
total_of f pair = (f.sum + pair.0 + pair.1) % 2 ^ 64

abbrev pub total_next : Total → ℕ × ℕ → Total
total_next f pair = record { sum = total_of f pair }

-- A future with up to two waits, and the number as its output.
abbrev pub slowly : Slowly → ℕ → DelayFuture ℕ
slowly f number = record { waits = number % 3; output = number }

abbrev pub slowly_next : Slowly → ℕ → Slowly
slowly_next f number = f

abbrev pub odds : Callbacks Odd ℕ Bool
odds = record { output = is_odd; next = odd_next; outputs = plain }

abbrev pub totals : Callbacks Total (ℕ × ℕ) ℕ
totals = record { output = total_of; next = total_next; outputs = plain }

abbrev pub delays : Callbacks Slowly ℕ (DelayFuture ℕ)
delays = record { output = slowly; next = slowly_next; outputs = plain }
