-- A cell as it is written.
use Rattle.std.proofs.Common.{◌≡◌, ℕ, ◌+◌, ◌*◌, ◌/◌, ◌%◌, ◌<◌, ◌≤◌, Bool, true, false, cond, refl, ap, arith}
use Rattle.std.specs.Prelude.{nat_lt, nat_le, ◌==◌}
use Rattle.std.specs.List.{list_all}
use Rattle.std.proofs.lemmas.Bool.Decides.{nat_tests}
use Rattle.ft_types.specs.declared.pattern.Cell.{Cell}
use Rattle.ft_types.specs.Valid.{IsValidCell}
use Rattle.ft_format.specs.Fields.{IsByteIf}
use Rattle.ft_format.specs.Pattern.{RawCellFits, cell_of}
use Rattle.ft_format.specs.Canon.{bytes_of_cell, is_set, mask_of, raw_cell_of}

-- ---- the bits of a mask

abbrev bit : Bool → ℕ
bit b = cond b 1 0

bit_low : (b : Bool) → bit b ≤ 1
bit_low true = omega arith
bit_low false = omega arith

bit_is : (b : Bool) (n : ℕ) → n ≡ bit b → (n == 1) ≡ b
bit_is true n e = rw e refl
bit_is false n e = rw e refl

abbrev mask : Bool → Bool → Bool → Bool → Bool → ℕ
mask a b c d e = 128 + (bit a + 2 * (bit b + 2 * (bit c + 2 * (bit d + 2 * (bit e + 0)))))

-- a first byte that is a mask with these five bits
record Bits (a b c d e : Bool) (first : ℕ) : Type 0 where
  small : first < 256
  high : nat_lt first 128 ≡ false
  note : (first % 2 == 1) ≡ a
  instrument : (first / 2 % 2 == 1) ≡ b
  volume : (first / 4 % 2 == 1) ≡ c
  effect : (first / 8 % 2 == 1) ≡ d
  parameter : (first / 16 % 2 == 1) ≡ e

not_low : (n : ℕ) → nat_lt (128 + n) 128 ≡ false
not_low n = grind (arith, nat_tests)

-- the same in numbers
record Sums (a b c d e n : ℕ) : Type 0 where
  small : n < 32
  one : (128 + n) % 2 ≡ a
  two : (128 + n) / 2 % 2 ≡ b
  three : (128 + n) / 4 % 2 ≡ c
  four : (128 + n) / 8 % 2 ≡ d
  five : (128 + n) / 16 % 2 ≡ e

sums : (a b c d e n : ℕ) → a ≤ 1 → b ≤ 1 → c ≤ 1 → d ≤ 1 → e ≤ 1 → n ≡ a + 2 * (b + 2 * (c + 2 * (d + 2 * (e + 0))))
    → Sums a b c d e n
sums a b c d e n la lb lc ld le is = record {
  small = omega (arith, la, lb, lc, ld, le, is);
  one = omega (arith, la, lb, lc, ld, le, is);
  two = omega (arith, la, lb, lc, ld, le, is);
  three = omega (arith, la, lb, lc, ld, le, is);
  four = omega (arith, la, lb, lc, ld, le, is);
  five = omega (arith, la, lb, lc, ld, le, is);
}

bits : (a b c d e : Bool) → Bits a b c d e (mask a b c d e)
bits a b c d e =
    let n = bit a + 2 * (bit b + 2 * (bit c + 2 * (bit d + 2 * (bit e + 0)))) in
    let s =
    sums (bit a) (bit b) (bit c) (bit d) (bit e) n (bit_low a) (bit_low b) (bit_low c) (bit_low d) (bit_low e) refl
    in
    record {
      small = omega (arith, s.small);
      high = not_low n;
      note = bit_is a _ s.one;
      instrument = bit_is b _ s.two;
      volume = bit_is c _ s.three;
      effect = bit_is d _ s.four;
      parameter = bit_is e _ s.five;
    }

-- ---- a cell behind a mask, and one without

abbrev make : ℕ → ℕ → ℕ → ℕ → ℕ → Cell
make note instrument volume effect parameter =
    record { note = note; instrument = instrument; volume = volume; effect = effect; parameter = parameter }

masked_fits : (a b c d e : Bool) (first n i v f p : ℕ) → Bits a b c d e first → IsByteIf a n → IsByteIf b i
    → IsByteIf c v → IsByteIf d f → IsByteIf e p → RawCellFits (record { first = first; cell = make n i v f p })
masked_fits a b c d e first n i v f p s fn fi fv ff fp = record {
  first = omega (arith, s.small);
  note = rw (s.high, s.note) fn;
  instrument = rw (s.high, s.instrument) fi;
  volume = rw (s.high, s.volume) fv;
  effect = rw (s.high, s.effect) ff;
  parameter = rw (s.high, s.parameter) fp;
}

unset : (x : ℕ) → is_set x ≡ false → x ≡ 0
unset x e = grind (arith, nat_tests)

byte_if_fits : (b : Bool) (x : ℕ) → is_set x ≡ b → x < 256 → IsByteIf b x
byte_if_fits true x e lt = omega (arith, lt)
byte_if_fits false x e lt = unset x e

bare_fits : (n i v f p : ℕ) → nat_lt n 128 ≡ true → n < 256 → i < 256 → v < 256 → f < 256 → p < 256
    → RawCellFits (record { first = n; cell = make n i v f p })
bare_fits n i v f p low ln li lv lf lp = record {
  first = omega (arith, ln);
  note = rw low refl;
  instrument = rw low (omega (arith, li));
  volume = rw low (omega (arith, lv));
  effect = rw low (omega (arith, lf));
  parameter = rw low (omega (arith, lp));
}

-- ---- a cell

low_note : (n : ℕ) → n ≤ 97 → nat_lt n 128 ≡ true
low_note n le = grind (arith, nat_tests)

abbrev first_if : Bool → Cell → ℕ
first_if full cell = cond full cell.note (128 + mask_of (bytes_of_cell cell))

cell_step_fits : (full : Bool) (cell : Cell) → IsValidCell cell
    → RawCellFits (record { first = first_if full cell; cell = cell })
cell_step_fits true cell v =
    bare_fits cell.note cell.instrument cell.volume cell.effect cell.parameter (low_note cell.note v.note)
    (omega (arith, v.note)) v.instrument v.volume v.effect v.parameter
cell_step_fits false cell v =
    masked_fits (is_set cell.note) (is_set cell.instrument) (is_set cell.volume) (is_set cell.effect)
    (is_set cell.parameter) (128 + mask_of (bytes_of_cell cell)) cell.note cell.instrument cell.volume cell.effect
    cell.parameter
    (bits (is_set cell.note) (is_set cell.instrument) (is_set cell.volume) (is_set cell.effect) (is_set cell.parameter))
    (byte_if_fits _ cell.note refl (omega (arith, v.note))) (byte_if_fits _ cell.instrument refl v.instrument)
    (byte_if_fits _ cell.volume refl v.volume)
    (byte_if_fits _ cell.effect refl v.effect) (byte_if_fits _ cell.parameter refl v.parameter)

pub cell_fits : (cell : Cell) → IsValidCell cell → RawCellFits (raw_cell_of cell)
cell_fits cell v = cell_step_fits (list_all is_set (bytes_of_cell cell)) cell v

kept_note : (n : ℕ) → n ≤ 97 → cond (nat_le n 97) n 0 ≡ n
kept_note n le = grind (arith, nat_tests)

pub cell_means : (cell : Cell) → IsValidCell cell → cell_of (raw_cell_of cell) ≡ cell
cell_means cell v =
    ap (λ (note : ℕ). make note cell.instrument cell.volume cell.effect cell.parameter) (kept_note cell.note v.note)
