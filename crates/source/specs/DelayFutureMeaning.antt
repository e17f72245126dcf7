-- What a DelayFuture means.
use Rattle.std.specs.Prelude.{ℕ}
use Rattle.source.specs.declared.delay_future.DelayFuture.{DelayFuture}

-- Its waits are as many as it has left.
abbrev pub delay_waits : {A : Type 0} → DelayFuture A → ℕ
delay_waits d = d.waits

-- Its output is the value that it holds.
abbrev pub delay_output : {A : Type 0} → DelayFuture A → A
delay_output d = d.output
