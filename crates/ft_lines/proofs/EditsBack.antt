-- Each edit is read from its text.
use Rattle.std.proofs.Common.{◌≡◌, ℕ, ◌+◌, ◌≤◌, Bool, true, not, ◌&&◌, List, ◌∷◌, ◌++◌, map, length, nat_lt, nat_le, Some, codes, ℤ, refl, subst}
use Rattle.std.specs.Prelude.{bytes_eq}
use Rattle.std.specs.List.{list_all}
use Rattle.std.specs.Fmt.{signed_decimal}
use Rattle.std.proofs.lemmas.Bool.{leb-true}
use Rattle.ft_types.specs.declared.edit.Edit.{Edit}
use Rattle.ft_types.specs.declared.edit_kind.EditKind.{EditKind}
use Rattle.ft_types.specs.declared.edit_kind.EditKind.TheVariants as kinds
use Rattle.ft_types.specs.Edits.{IsGivable}
use Rattle.ft_types.specs.Signatures.{signature}
use Rattle.ft_types.specs.EditParts.{InParts, edit_parts, edit_of, EditHasRanges}
use Rattle.ft_lines.specs.Words.{words_of, closing_words}
use Rattle.ft_lines.specs.Sequence.{give, ◌>>=◌}
use Rattle.ft_lines.specs.Reading.{Reading}
use Rattle.ft_lines.specs.Edits.{named, readings, kind_reading, numbers_reading, closing_reading}
use Rattle.ft_lines.specs.Lines.{begins_with_hash}
use Rattle.ft_lines.proofs.WordsBack.{is_solid, TakesWords, made_of, words_in_turn}
use Rattle.ft_lines.proofs.ValuesBack.{room_of_all, numbers_taken, closing_room, closing_taken}
use Rattle.ft_lines.proofs.WholeEdits.{is_whole, frames_given}

-- a word that an edit's line may begin with
abbrev pub is_name : List ℕ → Bool
is_name name = list_all is_solid name && nat_lt 0 (length name) && nat_lt (length name) 10
    && not (begins_with_hash name) && not (bytes_eq name (codes "at"))

-- the words of an edit: a name, and arguments that its reading takes
pub record IsWritten (edit : Edit) : Type 0 where
  pub name : List ℕ
  pub args : List (List ℕ)
  pub reading : Reading Edit
  pub most : ℕ
  pub words : words_of edit ≡ name ∷ args
  pub called : named readings name ≡ Some reading
  pub begins : is_name name ≡ true
  pub few : most ≤ 3000
  pub taken : TakesWords reading edit args most

-- how many bytes the arguments of a kind have at most
abbrev room : EditKind → ℕ
room kind = room_of_all (signature kind).numbers + closing_room (signature kind).last

-- each name is that of its kind and may begin a line, and what is behind it is short enough
abbrev KindFacts : EditKind → Type 0
KindFacts kind = (named readings (signature kind).name ≡ Some (kind_reading kind))
    × (is_name (signature kind).name ≡ true) × (nat_le (room kind) 3000 ≡ true)

kind_facts : (kind : EditKind) → KindFacts kind
unfolding readings
kind_facts kinds.Cell = (refl, refl, refl)
kind_facts kinds.Rows = (refl, refl, refl)
kind_facts kinds.Insrow = (refl, refl, refl)
kind_facts kinds.Delrow = (refl, refl, refl)
kind_facts kinds.Clear = (refl, refl, refl)
kind_facts kinds.Transpose = (refl, refl, refl)
kind_facts kinds.Copy = (refl, refl, refl)
kind_facts kinds.Order = (refl, refl, refl)
kind_facts kinds.Insorder = (refl, refl, refl)
kind_facts kinds.Delorder = (refl, refl, refl)
kind_facts kinds.Restart = (refl, refl, refl)
kind_facts kinds.Tempo = (refl, refl, refl)
kind_facts kinds.Bpm = (refl, refl, refl)
kind_facts kinds.Title = (refl, refl, refl)
kind_facts kinds.Newpat = (refl, refl, refl)
kind_facts kinds.Delpat = (refl, refl, refl)
kind_facts kinds.Newins = (refl, refl, refl)
kind_facts kinds.Clearins = (refl, refl, refl)
kind_facts kinds.Insname = (refl, refl, refl)
kind_facts kinds.Map = (refl, refl, refl)
kind_facts kinds.Env = (refl, refl, refl)
kind_facts kinds.Point = (refl, refl, refl)
kind_facts kinds.Vib = (refl, refl, refl)
kind_facts kinds.Fade = (refl, refl, refl)
kind_facts kinds.Newsmp = (refl, refl, refl)
kind_facts kinds.Delsmp = (refl, refl, refl)
kind_facts kinds.Smpname = (refl, refl, refl)
kind_facts kinds.Smp = (refl, refl, refl)
kind_facts kinds.Loop = (refl, refl, refl)
kind_facts kinds.Cut = (refl, refl, refl)
kind_facts kinds.Paste = (refl, refl, refl)
kind_facts kinds.Reverse = (refl, refl, refl)
kind_facts kinds.Scale = (refl, refl, refl)
kind_facts kinds.Bits = (refl, refl, refl)

-- the arguments are taken as the parts that they are
kind_taken : (p : InParts) → TakesWords (numbers_reading (signature p.kind).numbers) p.numbers (map signed_decimal p.numbers)
    (room_of_all (signature p.kind).numbers)
    → TakesWords (closing_reading (signature p.kind).last) (p.name, p.frames)
    (closing_words (signature p.kind).last p.name p.frames) (closing_room (signature p.kind).last)
    → TakesWords (kind_reading p.kind) (edit_of p)
    (map signed_decimal p.numbers ++ closing_words (signature p.kind).last p.name p.frames) (room p.kind)
unfolding kind_reading
kind_taken p numbers closing =
    let made : List ℤ → (List ℕ × List ℤ) → Edit =
    λ ns c. edit_of (record { kind = p.kind; numbers = ns; name = c.0; frames = c.1 }) in
    words_in_turn (numbers_reading (signature p.kind).numbers)
    (λ ns. closing_reading (signature p.kind).last >>= (λ c. give (made ns c)))
    numbers (made_of (made p.numbers) closing)

-- every edit that can be given is written so
pub is_written : (edit : Edit) → EditHasRanges edit → IsGivable edit → IsWritten edit
is_written edit ranges givable =
    let p : InParts = edit_parts edit in
    let facts = kind_facts p.kind in
    let args = map signed_decimal p.numbers ++ closing_words (signature p.kind).last p.name p.frames in
    record {
      name = (signature p.kind).name;
      args = args;
      reading = kind_reading p.kind;
      most = room p.kind;
      words = refl;
      called = facts.0;
      begins = facts.1;
      few = leb-true (room p.kind) 3000 facts.2;
      taken = subst (λ e. TakesWords (kind_reading p.kind) e args (room p.kind)) (is_whole edit ranges)
          (kind_taken p (numbers_taken (signature p.kind).numbers p.numbers ranges.0)
          (closing_taken (signature p.kind).last p.name p.frames ranges.1 (frames_given edit givable)));
    }
