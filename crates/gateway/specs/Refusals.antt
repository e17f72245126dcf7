-- What the refusal of an input tells.
use Rattle.script.specs.Refusals.{Told, told as script_told}
use Rattle.gateway.specs.declared.refusal.InputRefusal.{InputRefusal}
use Rattle.gateway.specs.declared.refusal.InputRefusal.TheVariants.{Header, Script}

-- Its number, the number of the script and the place: for a header both are 0, and a script's refusal tells its own.
abbrev pub told : InputRefusal → Told
told Header = record { number = 7; script = 0; place = 0 }
told (Script r) = script_told r
