-- Texts of exchanges for the paper's sample program F, read by the definitions. F has routines 0 and 1 with 3 and 2 nodes
-- (paper: places), and actions 0 and 1.
use Prim.Native.Nat.{ℕ}
use Prim.Native.String.{String}
use mathlib.Core.Path.{◌≡◌, refl}
use mathlib.Core.List.{List, [], ◌∷◌}
use lib.ListN.{replicate}
use Rattle.text.specs.Hex.{hex}
use Rattle.text.specs.Lines.{lines, numbers_of}
use Rattle.program.specs.Chosen.{largest, numbers}
use Rattle.program.specs.Program.{Edge, Program}
use Rattle.program.specs.Frames.{nodes_frame}
use Rattle.program.specs.Checks.{first_met}
use Rattle.program.specs.Sample.{bytes}
use Rattle.program.proofs.Samples.{sample}
use Rattle.edit.specs.Editing.{with_edges}
use Rattle.exchange.specs.Changes.{whole, ChangeRead, Read, Refused}
use Rattle.exchange.specs.Changing.{others}
use Rattle.exchange_text.specs.ExchangeText.{any, any_astray, exchange_from, wanted_exchange}

-- what these lines say for F
abbrev says : List String → ChangeRead
says ls = wanted_exchange sample (bytes ls)

-- routine 1 has so many nodes, and these edges
abbrev routine1 : ℕ → List Edge → ChangeRead
routine1 n es = Read (whole (record { routine = 1; nodes = n; edges = es }))

abbrev edge : ℕ → ℕ → ℕ → ℕ → Edge
edge f n a m = record { routine = f; source = n; label = a; target = m }

-- to unfold this is to unfold all that reading computes with
reading : Unit {0}
unfolding lines numbers_of first_met any any_astray others largest numbers exchange_from wanted_exchange
reading = tt

-- ---- texts that are read

two_steps : says ("520103" ∷ "5301000002" ∷ "5301020101" ∷ []) ≡ routine1 3 (edge 1 0 0 2 ∷ edge 1 2 1 1 ∷ [])
unfolding reading
two_steps = refl

-- the same routine as it is, and one without a step
as_it_is : says ("520102" ∷ "5301000001" ∷ []) ≡ routine1 2 (edge 1 0 0 1 ∷ [])
unfolding reading
as_it_is = refl

no_step : says ("520102" ∷ []) ≡ routine1 2 []
unfolding reading
no_step = refl

-- it may call itself
a_call : says ("520102" ∷ "5301004101" ∷ []) ≡ routine1 2 (edge 1 0 0x41 1 ∷ [])
unfolding reading
a_call = refl

-- ---- 12

empty_text : wanted_exchange sample [] ≡ Refused 12
unfolding reading
empty_text = refl

empty_line : says ("" ∷ []) ≡ Refused 12
unfolding reading
empty_line = refl

too_short : says ("5201" ∷ []) ≡ Refused 12
unfolding reading
too_short = refl

too_long : says ("520102" ∷ "530100000100" ∷ []) ≡ Refused 12
unfolding reading
too_long = refl

small_letter : says ("52010a" ∷ []) ≡ Refused 12
unfolding reading
small_letter = refl

no_end_of_line : wanted_exchange sample (hex (nodes_frame 1 2)) ≡ Refused 12
unfolding reading hex
no_end_of_line = refl

-- a file knows this kind
other_kind : says ("520102" ∷ "54000001" ∷ []) ≡ Refused 12
unfolding reading
other_kind = refl

-- 13 and 21 are met before it in the text
bad_at_last : says ("5301000009" ∷ "5201" ∷ []) ≡ Refused 12
unfolding reading
bad_at_last = refl

-- ---- 13

too_many_nodes : says ("520141" ∷ []) ≡ Refused 13
unfolding reading
too_many_nodes = refl

one_node : says ("520101" ∷ []) ≡ Refused 13
unfolding reading
one_node = refl

no_such_routine : says ("520202" ∷ []) ≡ Refused 13
unfolding reading
no_such_routine = refl

-- the new count of nodes bounds the steps, whether it is more than the old or less
step_past_the_end : says ("520102" ∷ "5301000002" ∷ []) ≡ Refused 13
unfolding reading
step_past_the_end = refl

step_in_the_longer : says ("520103" ∷ "5301000002" ∷ []) ≡ routine1 3 (edge 1 0 0 2 ∷ [])
unfolding reading
step_in_the_longer = refl

step_past_the_shorter : says ("520002" ∷ "5300000002" ∷ []) ≡ Refused 13
unfolding reading
step_past_the_shorter = refl

from_the_exit : says ("520102" ∷ "5301010000" ∷ []) ≡ Refused 13
unfolding reading
from_the_exit = refl

-- no step is labelled by a return: the automaton alone hears it
return_as_label : says ("520102" ∷ "5301006001" ∷ []) ≡ Refused 13
unfolding reading
return_as_label = refl

own_return_as_label : says ("520102" ∷ "5301006101" ∷ []) ≡ Refused 13
unfolding reading
own_return_as_label = refl

-- 21 is met on line 2, and 13 on line 3
range_before_order : says ("520102" ∷ "520102" ∷ "5301000005" ∷ []) ≡ Refused 13
unfolding reading
range_before_order = refl

-- ---- 21

first_is_a_step : says ("5301000001" ∷ []) ≡ Refused 21
unfolding reading
first_is_a_step = refl

later_52 : says ("520102" ∷ "520102" ∷ []) ≡ Refused 21
unfolding reading
later_52 = refl

another_routine : says ("520102" ∷ "5300000001" ∷ []) ≡ Refused 21
unfolding reading
another_routine = refl

descending_steps : says ("520102" ∷ "5301000101" ∷ "5301000001" ∷ []) ≡ Refused 21
unfolding reading
descending_steps = refl

repeated_step : says ("520102" ∷ "5301000001" ∷ "5301000001" ∷ []) ≡ Refused 21
unfolding reading
repeated_step = refl

-- ---- 16: F with 256 edges of routine 0, and routine 1 gets one

abbrev filled : Program
filled = with_edges sample (replicate 256 (edge 0 0 0 1))

one_too_many : wanted_exchange filled (bytes ("520102" ∷ "5301000001" ∷ [])) ≡ Refused 16
unfolding reading
one_too_many = refl

just_enough : wanted_exchange filled (bytes ("520102" ∷ [])) ≡ routine1 2 []
unfolding reading
just_enough = refl

-- ---- 23: with 2 routines and 16 states, 32 nodes are the most

abbrev wide : Program
wide =
    record {
      routines = 2;
      nodes = 3 ∷ 2 ∷ [];
      edges = [];
      automaton = record { states = 16; actions = 2; transitions = []; initial = []; rejecting = [] };
    }

product_above : wanted_exchange wide (bytes ("520121" ∷ [])) ≡ Refused 23
unfolding reading
product_above = refl

most_nodes : wanted_exchange wide (bytes ("520120" ∷ [])) ≡ routine1 32 []
unfolding reading
most_nodes = refl

-- 21 and 16 are met before it
order_before_sizes : wanted_exchange wide (bytes ("520121" ∷ "520121" ∷ [])) ≡ Refused 21
unfolding reading
order_before_sizes = refl

edges_before_sizes : wanted_exchange (with_edges wide (replicate 256 (edge 0 0 0 1))) (bytes ("520121" ∷ "5301000001" ∷ [])) ≡ Refused 16
unfolding reading
edges_before_sizes = refl
