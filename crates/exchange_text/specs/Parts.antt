-- What the private functions promise of each other; nothing here has to be believed.
use Rattle.std.specs.Prelude.{ℕ, ◌+◌, Bool, false, cond, ◌||◌, not, List, [], ◌∷◌, map, ltb, leb, length}
use Rattle.text.specs.declared.Line.{Line}
use Rattle.program.specs.Sizes.{max_edges}
use Rattle.program.specs.Program.{Edge, Program}
use Rattle.program.specs.Frames.{num}
use Rattle.program.specs.Reading.{edge_in, more}
use Rattle.program.specs.Checks.{Row, row, first_met}
use Rattle.program.specs.Decoded.{edge_keys_of, edge_of}
use Rattle.program.specs.declared.edges.Edges.{Edges}
use Rattle.exchange.specs.Changes.{Exchange, ChangeRead, Refused}
use Rattle.exchange.specs.Changing.{others}
use Rattle.exchange_text.specs.ExchangeText.{of_routine, bad_frame, outside, frame_key, astray, too_large, exchange_unless}
use Rattle.exchange_text.specs.declared.scan.Scan.{Scan}

-- the edges of a table
abbrev pub edges_of : Edges → List Edge
edges_of t = map edge_of (edge_keys_of t)

-- what is known after some lines, none of them bad: the key of the last edge's frame, whether a line was out of range,
-- whether one was astray, whether there was one more than a table has room for, and the edges that have room
pub record Found : Type 0 where
  pub last : ℕ
  pub outside : Bool
  pub astray : Bool
  pub crowded : Bool
  pub edges : List Edge

abbrev pub found_of : Scan → Found
found_of s =
    record {
      last = s.last;
      outside = s.outside;
      astray = s.astray;
      crowded = s.crowded;
      edges = edges_of s.edges;
    }

-- after the first line
abbrev pub begun : Program → Line → Found
begun bounds l =
    record { last = 0; outside = outside bounds l; astray = not (of_routine l); crowded = false; edges = [] }

-- after a line more
abbrev pub found_after : Program → ℕ → Found → Line → Found
found_after bounds f s l =
    record {
      last = frame_key l;
      outside = s.outside || outside bounds l;
      astray = s.astray || astray f s.last l;
      crowded = s.crowded || leb max_edges (length s.edges);
      edges = more (ltb (length s.edges) max_edges) (edge_in l) s.edges;
    }

-- 16, by what was found
abbrev pub too_many_in : Program → ℕ → Found → Bool
too_many_in p f s = s.crowded || ltb max_edges (length (others f p.edges) + length s.edges)

-- the refusals after 12
abbrev pub later_rows : Bool → Bool → Bool → Bool → List Row
later_rows out stray many large = row 13 out ∷ row 21 stray ∷ row 16 many ∷ row 23 large ∷ []

-- the first of them, and else the exchange
abbrev pub decided_by : Bool → Bool → Bool → Bool → Exchange → ChangeRead
decided_by out stray many large x = exchange_unless (first_met (later_rows out stray many large)) x

-- after the last line
abbrev pub concluded : Program → Line → Found → ChangeRead
concluded p first s =
    let x : Exchange = record { routine = num first 1; nodes = num first 2; edges = s.edges } in
    decided_by s.outside s.astray (too_many_in p (num first 1) s) (too_large p x) x

-- what the lines that are left decide
unfoldable pub rest_from : Program → Program → Line → Found → List Line → ChangeRead
rest_from bounds p first s [] = concluded p first s
rest_from bounds p first s (l ∷ ls) =
    cond (bad_frame l) (Refused 12) (rest_from bounds p first (found_after bounds (num first 1) s l) ls)
