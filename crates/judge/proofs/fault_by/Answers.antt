-- `judge::fault_by` meets its contract: a wrong count of numbers is asked for as a test.
use Rattle.std.proofs.Common.{refl}
use borrow.Author.Tests.{ne_eqb}
use Rattle.frames.proofs.KnownKinds.{is_known}
use Rattle.judge.proofs.fault_by.Goals as goal

pub returns-then-l-size_of : goal.returns-then-l-size_of
returns-then-l-size_of c =
    let size = rw c.in-Some.is at c.size_of.ensures in
    rw (
      ne_eqb _ _ c.if-l-eq0.false,
      ← c.in-Some.ensures,
      is_known c.in-Some.field-0,
      ← size,
      ne_eqb _ _ c.if-l-size_of.true,
    ) refl
