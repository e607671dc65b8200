-- `program::edges::edge_key` meets its contract.
use mathlib.Core.Path.{◌≡◌, ap, ◌∙◌}
use Prim.Native.Nat.{ℕ, ◌/◌, ◌%◌, ◌<◌}
use native.Mathlib.Omega.{arith}
use borrow.Author.Rules.{rules}
use Rattle.program.specs.Frames.{packed}
use Rattle.program.specs.Decoded.{edge_of}
use Rattle.program.proofs.edges.edge_key.Goals as goal

parts : (a b c d : ℕ) → b < 256 → c < 256 → d < 256 → edge_of (packed a b c d) ≡ record { routine = a; source = b; label = c; target = d }
parts a b c d h i j =
    let p : packed a b c d / 0x1000000 ≡ a = omega arith in
    let q : packed a b c d / 0x10000 % 256 ≡ b = omega arith in
    let r : packed a b c d / 0x100 % 256 ≡ c = omega arith in
    let s : packed a b c d % 256 ≡ d = omega arith in
    cc

pub returns : goal.returns
returns c = ap edge_of c.pack.ensures ∙ parts _ _ _ _ (search rules) (search rules) (search rules)
