-- The paper's sample file F, as quoted lines.
use Rattle.std.specs.Prelude.{List, [], ◌∷◌, ◌++◌, ℕ}
use Prim.Native.Char.{code}
use Prim.Native.String.{String, [] as end, ◌∷◌ as ◌then◌}

-- the bytes of a line, with its 0A
abbrev pub line_bytes : String → List ℕ
line_bytes end = 0x0A ∷ []
line_bytes (c then s) = code c ∷ line_bytes s

-- the bytes of some lines
abbrev pub bytes : List String → List ℕ
bytes [] = []
bytes (l ∷ ls) = line_bytes l ++ bytes ls

-- F, in parts
abbrev pub header : List String
header = "50020302" ∷ "520003" ∷ "520102" ∷ []

abbrev pub edges : List String
edges = "5300004102" ∷ "5300020101" ∷ "5301000001" ∷ []

abbrev pub transitions : List String
transitions = "54000001" ∷ "54000102" ∷ "54010001" ∷ "54010101" ∷ []

abbrev pub F : List String
F = header ++ edges ++ transitions ++ "4900" ∷ "4602" ∷ "45000C" ∷ []
