-- The reader's loop: what is read so far, and that the rest decides.
use mathlib.Core.Path.{◌≡◌, ◌∙◌}
use mathlib.Core.Bool.{true, false}
use mathlib.Core.List.{List, []}
use Prim.Native.Nat.{ℕ, ◌+◌, ◌≤◌, ◌<◌}
use lib.ListN.{length, drop}
use Rattle.text.specs.Lines.{lines, numbers_of, line_at}
use Rattle.program.specs.Sizes.{max_frames}
use Rattle.program.specs.Reading.{start, refused, judge, after, finished, read_from, read_file}
use Rattle.program.specs.Frames.{kind}
use Rattle.program.specs.Decoded.{program_of}
use Rattle.progress.specs.Progress.{progress_of}
use Rattle.program.specs.RoomParts.{Room, RoomForRow}
use Rattle.automaton.specs.Sizes.{max_states, max_actions}
use Rattle.rows.specs.Rows.{TableRow}
use Rattle.progress.specs.declared.Reader.{Reader}
use Rattle.program.proofs.LinesJudged.{padded}
use Rattle.program.proofs.ProgressSound.{Sound, start_sound, after_sound, begun_limits, ended_begun, room, room_for_row, frames_few}
use Rattle.program.proofs.ReadingTurns.{at_last, is_over, is_faulty, goes_on, moves}

pub record Reads (file : List ℕ) (s : Reader) (rows : List TableRow) (at : ℕ) : Type 0 where
  pub rest : read_file file ≡ read_from (progress_of s rows) (lines (drop at file))
  pub sound : Sound (progress_of s rows)

pub begins : (file : List ℕ) (s : Reader) → progress_of s [] ≡ start → Reads file s [] 0
unfolding read_file
begins file s e = record { rest = rw e; sound = rw e start_sound }

module _ (file : List ℕ) (s : Reader) (rows : List TableRow) (at : ℕ) (r : Reads file s rows at) where
  pub few : s.frames ≤ max_frames + 1
  few = frames_few (progress_of s rows) r.sound

  pub over : at < length file → s.ended ≡ true → read_file file ≡ refused 8 (s.frames + 1)
  over h e = r.rest ∙ is_over file at (progress_of s rows) h e

  pub faulty : at < length file → s.ended ≡ false → 0 < judge (progress_of s rows) (line_at file at).line
      → read_file file ≡ refused (judge (progress_of s rows) (line_at file at).line) (s.frames + 1)
  faulty h e f = r.rest ∙ is_faulty file at (progress_of s rows) h e f

  pub complete : length file ≤ at → s.ended ≡ true → read_file file ≡ finished rows (program_of s.program)
  complete h e = r.rest ∙ at_last file at (progress_of s rows) h ∙ rw e

  pub cut_short : length file ≤ at → s.ended ≡ false → read_file file ≡ refused 8 (s.frames + 1)
  cut_short h e = r.rest ∙ at_last file at (progress_of s rows) h ∙ rw e

  pub small : s.ended ≡ true → (s.program.automaton.states ≤ max_states) × (s.program.automaton.actions ≤ max_actions)
  small e = let k = begun_limits (progress_of s rows) (ended_begun (progress_of s rows) r.sound e) in (k.states, k.actions)

  module _ (e : s.ended ≡ false) (j : judge (progress_of s rows) (line_at file at).line ≡ 0) where
    pub has_room : Room (program_of s.program) (kind (line_at file at).line)
    has_room = room (progress_of s rows) (line_at file at).line (padded (numbers_of (drop at file))) r.sound e j

    pub has_room_for_row : RoomForRow rows (kind (line_at file at).line)
    has_room_for_row = room_for_row (progress_of s rows) (line_at file at).line j

    pub proceeds : at < length file → at < (line_at file at).next
    proceeds h = moves file at (progress_of s rows) h j

    pub continues : at < length file → (s' : Reader) (rows' : List TableRow) → progress_of s' rows' ≡ after (progress_of s rows) (line_at file at).line
        → Reads file s' rows' (line_at file at).next
    continues h s' rows' f =
        record {
          rest = r.rest ∙ goes_on file at (progress_of s rows) h e j ∙ rw f;
          sound = rw f (after_sound (progress_of s rows) (line_at file at).line (padded (numbers_of (drop at file))) r.sound e j);
        }
