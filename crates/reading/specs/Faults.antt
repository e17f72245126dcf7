-- What a fault tells.
use Rattle.std.specs.Prelude.{ℕ}
use Rattle.reading.specs.declared.layer.Layer.{Layer}
use Rattle.reading.specs.declared.fault.Fault.{Fault}
use Rattle.reading.specs.declared.fault.Fault.TheVariants.{NotImplemented}

-- A fault tells its number, the layer that it comes from, and the number of the pair, from 0.
pub record Told : Type 0 where
  pub number : ℕ
  pub layer : Layer
  pub pair : ℕ

-- The number of each fault; the layer and the pair are its own.
abbrev pub told : Fault → Told
told (NotImplemented layer pair) = record { number = 6; layer = layer; pair = pair }
