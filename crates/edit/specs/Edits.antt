-- Edits, and the edges that they are about.
use Rattle.std.specs.Prelude.{ℕ, cond}
use Rattle.program.specs.Program.{Edge, is_action, called_by}
use Rattle.automaton.specs.Automaton.{call_of}
use Rattle.edit.specs.declared.Label.{Label}
use Rattle.edit.specs.declared.Label.TheVariants.{Action, Call}
use Rattle.edit.specs.declared.Step.{Step}
use Rattle.edit.specs.declared.Edit.{Edit}
use Rattle.edit.specs.declared.Edit.TheVariants.{Add, Drop, Replace}

-- the label of a number
abbrev pub event_of : ℕ → Label
event_of a = cond (is_action a) (Action a) (Call (called_by a))

abbrev pub label_number : Label → ℕ
label_number (Action a) = a
label_number (Call g) = call_of g

-- the edge of a step with this label, and with its own
abbrev pub labelled : Step → Label → Edge
labelled s l = record { routine = s.routine; source = s.source; label = label_number l; target = s.target }

abbrev pub edge_of_step : Step → Edge
edge_of_step s = labelled s s.label

-- the step with another label
abbrev pub relabelled : Step → Label → Step
relabelled s l = record { routine = s.routine; source = s.source; label = l; target = s.target }

-- the step that an edit is about, and its edge: it is added, dropped or given another label
abbrev pub old_step : Edit → Step
old_step (Add s) = s
old_step (Drop s) = s
old_step (Replace s l) = s

abbrev pub old_edge : Edit → Edge
old_edge e = edge_of_step (old_step e)

-- the step that is wanted at the end of an add or a replace, and its edge
abbrev pub new_step : Edit → Step
new_step (Add s) = s
new_step (Drop s) = s
new_step (Replace s l) = relabelled s l

abbrev pub new_edge : Edit → Edge
new_edge e = edge_of_step (new_step e)
