-- What the passes are, from their fields.
use Rattle.std.specs.Prelude.{◌≡◌, ◌+◌, ◌≤◌, ◌<◌, [], length}
use Rattle.ft_shared.specs.declared.law.Hold.{Hold}
use Rattle.ft_shared.specs.declared.law.Account.{Account}
use Rattle.ft_shared.specs.declared.law.ToldVersion.{ToldVersion}
use Rattle.ft_shared.specs.declared.law.View.TheVariants.{Reader, Writer, Told}
use Rattle.ft_shared.specs.declared.reader.ReaderPass.TheInside.{Inside as ReaderInside}
use Rattle.ft_shared.specs.declared.writer.WriterPass.TheInside.{Inside as WriterInside}
use Rattle.ft_shared.specs.declared.notes.Note.TheInside.{Inside as NoteInside}
use Rattle.ft_shared.specs.Counts.{sum_below}
use Rattle.ft_shared.specs.Account.{hold_of, account_of, told_of, SlotsAreMet}
use Rattle.ft_shared.specs.Register.{marks}
use Rattle.ft_shared.specs.Pass.{ReaderState, WriterState, NoteState, reader_at, writer_at, note_at, ArePassesKept}

-- what a reader's pass knows, by its seat
abbrev pub hold_in : ReaderInside → Hold
hold_in pass = hold_of pass.place.me.0

-- what the writer's pass knows, by its seat
abbrev pub account_in : WriterInside → Account
account_in pass = account_of pass.place.me.0

abbrev pub reader_state : ReaderInside → ReaderState
reader_state pass = reader_at pass.place.table_id (hold_in pass)

pub record IsReaderPass (pass : ReaderInside) : Type 0 where
  pub seat : pass.place.me ≡ (Reader (hold_in pass), [])
  pub slot : (hold_in pass).slot ≡ pass.slot
  pub inside : pass.slot < (hold_in pass).notes.sizes.readers + 2
  pub number : ((hold_in pass).notes.number ≡ pass.number)
      × (pass.number < (hold_in pass).notes.sizes.readers)

abbrev pub writer_state : WriterInside → WriterState
writer_state pass = writer_at pass.place.table_id (account_in pass)

pub record IsWriterPass (pass : WriterInside) : Type 0 where
  pub seat : pass.place.me ≡ (Writer (account_in pass), [])
  pub readers : ((account_in pass).sizes.readers ≡ pass.readers) × (pass.readers ≤ 8)
  pub version : (account_in pass).version ≡ pass.version
  pub slot : (account_in pass).slot ≡ pass.slot
  pub inside : pass.slot < pass.readers + 2
  pub slots : (account_in pass).slots ≡ pass.slots
  pub deep : length pass.slots ≡ 10
  -- what is kept of each settled pass
  pub many : (length (account_in pass).settled ≡ pass.many) × (pass.many ≤ 8)
  pub room : length pass.settled ≡ 8
  pub settled : ArePassesKept (account_in pass).sizes pass.settled (account_in pass).settled
  -- a scan of all slots found at most as many slots held as there are readers
  pub whole : SlotsAreMet (account_in pass).sizes (account_in pass)
      → sum_below (marks (account_in pass)) (pass.readers + 2) ≤ pass.readers

-- what a note says, by its seat
abbrev pub told_in : NoteInside → ToldVersion
told_in note = told_of note.place.me.0

abbrev pub note_state : NoteInside → NoteState
note_state note = note_at note.place.table_id (told_in note)

pub record IsNote (note : NoteInside) : Type 0 where
  pub seat : note.place.me ≡ (Told (told_in note), [])
  pub version : (told_in note).version ≡ note.version
