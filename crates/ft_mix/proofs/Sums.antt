-- Laws of the sums of a side.
use Rattle.std.proofs.Common.{◌≡◌, ℕ, ◌<◌, ◌+◌, ℤ, pos, ◌+ℤ◌, arith, refl, false, Option, None, List, length, get_or, drop, drop-cons, add-one}
use Rattle.std.proofs.lemmas.Int.{ints}
use Rattle.ft_types.specs.declared.voice.Voice.{Voice}
use Rattle.ft_types.specs.Views.{Owned}
use Rattle.ft_replay.specs.Sound.{voices_sum}

-- what is read past the voices
abbrev pub no_voice : Voice
no_voice = record {
  channel = 0;
  head = record {
    frames = 0;
    wide = false;
    loop_kind = 0;
    loop_start = 0;
    loop_len = 0;
    volume = 0;
    panning = 0;
    finetune = pos 0;
    relative = pos 0;
  };
  pos = 0;
  step = 0;
  left = 0;
  right = 0;
  last = false;
}

-- the first voice that is left, and then the others
pub next_voice : (side : Option Owned → Voice → ℤ) (kept : List (Option Owned)) (voices : List Voice) (i : ℕ)
    (d : Voice) → i < length voices
    → voices_sum side kept (drop i voices)
    ≡ (side (get_or kept (get_or voices i d).channel None) (get_or voices i d)
    +ℤ voices_sum side kept (drop (i + 1) voices))
next_voice side kept voices i d lt = rw (drop-cons voices i d lt, add-one i) refl

-- a sum that goes on by one voice
pub sum_on : (sum value rest more total : ℤ) → rest ≡ (value +ℤ more) → (sum +ℤ rest) ≡ total
    → ((sum +ℤ value) +ℤ more) ≡ total
sum_on sum value rest more total e so_far = omega (arith, ints)
