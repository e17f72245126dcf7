-- The text of a line, as bytes.
use Rattle.std.specs.Prelude.{ℕ, List, [], ◌∷◌, ◌++◌, ℤ, codes, decimal}
use Rattle.std.specs.Fmt.{signed_decimal}
use Rattle.std.specs.List.{flat_map}
use Rattle.reading.specs.Faults.{told as fault_told}
use Rattle.gateway.specs.declared.line.End.{End}
use Rattle.gateway.specs.declared.line.End.TheVariants.{Wait, Full, Done, Fault}
use Rattle.gateway.specs.Lines.{Said, polled, refused}
use Rattle.gateway.specs.Refusals.{told}

-- How a poll ended is one word; a fault has its number and that of its pair after the word.
abbrev pub end_text : End → List ℕ
end_text Wait = codes "wait"
end_text Full = codes "full"
end_text Done = codes "done"
end_text (Fault f) = codes "fault " ++ (decimal (fault_told f).number ++ (codes " " ++ decimal (fault_told f).pair))

-- A space and the number, for each of the watts.
abbrev pub spaced : List ℤ → List ℕ
spaced ws = flat_map (λ w. codes " " ++ signed_decimal w) ws

-- A poll's line has its number, how it ended, and its watts. A refusal has its number, the number of the script and the
-- place. One space stands between each two, and none at the end.
abbrev pub text : Said → List ℕ
text (polled n end ws) = decimal n ++ (codes " " ++ (end_text end ++ spaced ws))
text (refused r) = codes "refused " ++ (decimal (told r).number ++ (codes " " ++ (decimal (told r).script ++ (codes " " ++ decimal (told r).place))))

-- A line ends in a line feed.
abbrev pub line_text : Said → List ℕ
line_text l = text l ++ (10 ∷ [])

-- The lines one after another.
abbrev pub lines_text : List Said → List ℕ
lines_text ls = flat_map line_text ls
