-- What is known after some lines, as it is kept. Only the functions that make up the reader promise each other this;
-- nothing here has to be believed.
use Rattle.std.specs.Prelude.{List}
use Rattle.program.specs.Reading.{Progress}
use Rattle.program.specs.Decoded.{program_of}
use Rattle.rows.specs.Rows.{TableRow}
use Rattle.progress.specs.declared.Reader.{Reader}

-- what is known, and the rows beside it
abbrev pub progress_of : Reader → List TableRow → Progress
progress_of s rows =
    record { last = s.last; frames = s.frames; ended = s.ended; rows = rows; program = program_of s.program }
