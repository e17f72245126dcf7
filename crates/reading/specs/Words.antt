-- What a pair of words says.
use Rattle.std.specs.Prelude.{ℕ, ◌+◌, ◌*◌, ◌^◌, cond, ◌&&◌, ℤ, pos, ◌-ℤ◌, Ok, Err, Result, ◌==◌, nat_le}
use Rattle.reading.specs.declared.layer.Layer.TheVariants.{Reading}
use Rattle.reading.specs.declared.fault.Fault.{Fault}
use Rattle.reading.specs.declared.fault.Fault.TheVariants.{NotImplemented}

-- The number that two words make: high × 65,536 + low, less 2^32 where high is 32,768 or more.
abbrev pub signed : ℕ → ℕ → ℤ
signed high low = cond (nat_le 32768 high) (pos (high * 65536 + low) -ℤ pos (2 ^ 32)) (pos (high * 65536 + low))

-- The reading of a pair, by the pair's number and its words: the words 0x8000, 0x0000 mean "not implemented", and any others make a number.
abbrev pub reading : ℕ → ℕ → ℕ → Result ℤ Fault
reading pair high low = cond (high == 0x8000 && low == 0) (Err (NotImplemented Reading pair)) (Ok (signed high low))
