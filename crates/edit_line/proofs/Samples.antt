-- The labels of edit lines for the paper's sample program F, read by the definitions. F has routines 0 and 1 and actions
-- 0 and 1.
use Prim.Native.String.{String}
use mathlib.Core.Path.{◌≡◌, refl}
use mathlib.Core.List.{[], ◌∷◌}
use Rattle.text.specs.Lines.{numbers_of}
use Rattle.program.specs.Sample.{bytes}
use Rattle.program.proofs.Samples.{sample}
use Rattle.edit_line.specs.EditLines.{edit_from, read_edit}
use Rattle.edit.specs.declared.Label.{Label}
use Rattle.edit.specs.declared.Label.TheVariants.{Action, Call}
use Rattle.edit.specs.declared.Step.{Step}
use Rattle.edit.specs.declared.Edit.TheVariants.{Add, Replace}
use Rattle.edit.specs.EditReads.{EditRead}
use Rattle.edit.specs.EditReads.{Read, Refused}

-- what this line says for F
abbrev says : String → EditRead
says l = read_edit sample (bytes (l ∷ []))

-- from routine 1's entry to its exit
abbrev step : Label → Step
step l = record { routine = 1; source = 0; label = l; target = 1 }

-- to unfold this is to unfold all that reading computes with
reading : Unit {0}
unfolding numbers_of edit_from read_edit
reading = tt

add_call : says "2B01004101" ≡ Read (Add (step (Call 1)))
unfolding reading
add_call = refl

replace_by_call : says "3D0100000140" ≡ Read (Replace (step (Action 0)) (Call 0))
unfolding reading
replace_by_call = refl

-- no step is labelled by a return: the automaton alone hears it
add_return : says "2B01006001" ≡ Refused 13
unfolding reading
add_return = refl

drop_return : says "2D01006101" ≡ Refused 13
unfolding reading
drop_return = refl

replace_by_return : says "3D0100000160" ≡ Refused 13
unfolding reading
replace_by_return = refl

replace_return : says "3D0100600140" ≡ Refused 13
unfolding reading
replace_return = refl
