-- The two laws of a cell.
use Rattle.std.proofs.Common.{◌≡◌, ℕ, ◌%◌, Bool, true, false, cond, List, ◌++◌, Ok, refl, subst}
use Rattle.std.specs.Prelude.{nat_lt, nat_eq}
use Rattle.ft_format.specs.declared.cell.RawCell.{RawCell}
use Rattle.ft_format.specs.Fields.{byte, IsNumber, AreBytes, byte_if_text, IsByteIf}
use Rattle.ft_format.specs.Pattern.{has, note_text, IsNoteByte, raw_cell_text, RawCellFits, cell_of}
use Rattle.ft_xmread.specs.Reader.{FilePlace, FileReading, number_at, seen, byte_if}
use Rattle.ft_xmread.specs.Pattern.{note_spelled_at, raw_cell_at, inside, cell_spelled_at}
use Rattle.ft_xmread.proofs.Lawful.{Lawful, Takes, Alike, both, byte_law, byte_if_law, both_law, pair_law, kept_law, refit_law, alike_law, next_alike, ok_is, no_text}
use Rattle.ft_xmread.proofs.Chains.{do5, alike5}
use Rattle.ft_xmread.proofs.Spelled.{Spelled, same, lawful_spelled, inside_spelled, seen_spelled}

-- ---- the note

abbrev note_if : Bool → ℕ → FileReading ℕ
note_if low first p = cond low (Ok (first, p)) (byte_if (nat_eq (first % 2) 1) p)

note_takes : (first : ℕ) (p : FilePlace) (x : ℕ × FilePlace) → AreBytes p.left → note_if true first p ≡ Ok x
    → Takes (note_text true first) (IsNoteByte true first) p x
note_takes first p x bytes e =
    let made : ℕ × FilePlace = (first, p) in
    subst (λ (y : ℕ × FilePlace). Takes (note_text true first) (IsNoteByte true first) p y) (ok_is made x e)
    (record { fits = refl; parts = refl; bytes = bytes })

note_if_law : (low : Bool) (first : ℕ) → Lawful (note_if low first) (note_text low first) (IsNoteByte low first)
note_if_law true first = record {
  again = λ at x rest fits. rw (fits, no_text at) refl;
  takes = λ p x bytes e. note_takes first p x bytes e;
}
note_if_law false first = record {
  again = λ at x rest fits. (byte_if_law (nat_eq (first % 2) 1)).again at x rest fits;
  takes =
      λ p x bytes e.
      let t = (byte_if_law (nat_eq (first % 2) 1)).takes p x bytes e in
      record { fits = t.fits; parts = t.parts; bytes = t.bytes };
}

note_law : (first : ℕ) → Lawful (note_spelled_at first) (note_text (nat_lt first 128) first) (IsNoteByte (nat_lt first 128) first)
note_law first = note_if_law (nat_lt first 128) first

-- ---- the cell

abbrev Parts : Type 0
Parts = ℕ × (ℕ × (ℕ × (ℕ × (ℕ × ℕ))))

abbrev make : Parts → RawCell
make x =
    record {
      first = x.0;
      cell =
          record {
            note = x.1.0;
            instrument = x.1.1.0;
            volume = x.1.1.1.0;
            effect = x.1.1.1.1.0;
            parameter = x.1.1.1.1.1;
          };
    }

abbrev parts_of : RawCell → Parts
parts_of raw =
    (raw.first, (raw.cell.note, (raw.cell.instrument, (raw.cell.volume, (raw.cell.effect, raw.cell.parameter)))))

-- behind the first byte
abbrev others_at : ℕ → FileReading (ℕ × (ℕ × (ℕ × (ℕ × ℕ))))
others_at first =
    both (note_spelled_at first)
    (λ _.
    both (byte_if (has first 2))
    (λ _. both (byte_if (has first 4)) (λ _. both (byte_if (has first 8)) (λ _. byte_if (has first 16)))))

abbrev OthersFit : ℕ → ℕ × (ℕ × (ℕ × (ℕ × ℕ))) → Type 0
OthersFit first x =
    IsNoteByte (nat_lt first 128) first x.0
    × (IsByteIf (has first 2) x.1.0
    × (IsByteIf (has first 4) x.1.1.0 × (IsByteIf (has first 8) x.1.1.1.0 × IsByteIf (has first 16) x.1.1.1.1)))

abbrev others_text : ℕ → ℕ × (ℕ × (ℕ × (ℕ × ℕ))) → List ℕ
others_text first x =
    note_text (nat_lt first 128) first x.0
    ++ (byte_if_text (has first 2) x.1.0
    ++ (byte_if_text (has first 4) x.1.1.0
    ++ (byte_if_text (has first 8) x.1.1.1.0 ++ byte_if_text (has first 16) x.1.1.1.1)))

abbrev PartsFit : RawCell → Type 0
PartsFit raw = IsNumber 1 raw.first × OthersFit raw.first (parts_of raw).1

abbrev raw_cell_parts : FileReading RawCell
raw_cell_parts = seen make (both (number_at 1) others_at)

abbrev made : ℕ → ℕ → ℕ → ℕ → ℕ → ℕ → RawCell
made first note instrument volume effect parameter =
    record {
      first = first;
      cell = record { note = note; instrument = instrument; volume = volume; effect = effect; parameter = parameter };
    }

alike : Alike raw_cell_at raw_cell_parts
unfolding raw_cell_at
alike = next_alike make (number_at 1) others_at
    (λ first.
    do5 (note_spelled_at first) (byte_if (has first 2)) (byte_if (has first 4)) (byte_if (has first 8))
    (byte_if (has first 16)) (made first))
    (λ first.
    alike5 (note_spelled_at first) (byte_if (has first 2)) (byte_if (has first 4)) (byte_if (has first 8))
    (byte_if (has first 16)) (made first))

parts_law : Lawful raw_cell_parts raw_cell_text PartsFit
unfolding raw_cell_text
parts_law = kept_law make parts_of _ _ _
    (both_law (number_at 1) others_at byte others_text (IsNumber 1) OthersFit byte_law
    (λ first _. pair_law _ _ _ _ _ _ (note_law first) (pair_law _ _ _ _ _ _ (byte_if_law (has first 2)) (pair_law _ _ _
    _ _ _ (byte_if_law (has first 4))
    (pair_law _ _ _ _ _ _ (byte_if_law (has first 8)) (byte_if_law (has first 16)))))))
    (λ _ _. refl) (λ _. refl)

raw_cell_law : Lawful raw_cell_at raw_cell_text RawCellFits
raw_cell_law =
    alike_law raw_cell_at raw_cell_parts raw_cell_text RawCellFits alike (refit_law raw_cell_parts raw_cell_text
    PartsFit RawCellFits parts_law
    (λ raw f.
    record {
      first = f.0;
      note = f.1.0;
      instrument = f.1.1.0;
      volume = f.1.1.1.0;
      effect = f.1.1.1.1.0;
      parameter = f.1.1.1.1.1;
    })
    (λ raw g. (g.first, (g.note, (g.instrument, (g.volume, (g.effect, g.parameter)))))))

pub cell_law : (pattern : ℕ) → Spelled (cell_spelled_at pattern) raw_cell_text RawCellFits cell_of
unfolding cell_spelled_at
cell_law pattern = seen_spelled cell_of (inside pattern raw_cell_at) raw_cell_text RawCellFits same
    (inside_spelled pattern raw_cell_at raw_cell_text RawCellFits same
    (lawful_spelled raw_cell_at raw_cell_text RawCellFits raw_cell_law))
