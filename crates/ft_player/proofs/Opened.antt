-- A player that was just opened.
use Rattle.std.proofs.Common.{◌≡◌, ◌≤◌, ℕ, zero, suc, List, [], ◌∷◌, false, Option, None, All, length, map, is_some, get_or, replicate, refl, sym, ap, subst, ◌∙◌, arith}
use Rattle.std.proofs.lemmas.Option.{none-some}
use Rattle.ft_types.specs.Views.{Owned}
use Rattle.ft_types.specs.declared.voice.Voice.{Voice}
use Rattle.ft_replay.specs.Calls.{sounds_on}
use Rattle.ft_replay.specs.Range.{IsSongInRange}
use Rattle.ft_shared.specs.declared.law.Pin.{Pin}
use Rattle.ft_player.specs.declared.seat.Seat.{Seat}
use Rattle.ft_player.specs.declared.songs.Songs.{Songs}
use Rattle.ft_player.specs.Seats.{pin_in, owned_by, IsSeated}
use Rattle.ft_player.specs.Player.{PlayerState, IsInOrder, KeepsHead}

no_pins : (n : ℕ) → map pin_in (replicate n None) ≡ replicate n None
no_pins zero = refl
no_pins (suc n) = ap (λ (l : List (Option Pin)). None ∷ l) (no_pins n)

pub owns_none : (songs : Songs) (n : ℕ) → map (owned_by songs) (replicate n None) ≡ replicate n None
owns_none songs zero = refl
owns_none songs (suc n) = ap (λ (l : List (Option Owned)). None ∷ l) (owns_none songs n)

nobody : (n c : ℕ) → get_or (map (is_some {T = Seat}) (replicate n None)) c false ≡ false
nobody zero c = refl
nobody (suc n) zero = refl
nobody (suc n) (suc c) = nobody n c

abbrev nothing : ℕ → List (Option Seat)
nothing n = replicate n None

empty : (n c : ℕ) → get_or (nothing n) c None ≡ None
empty zero c = refl
empty (suc n) zero = refl
empty (suc n) (suc c) = empty n c

many : (n : ℕ) → length (nothing n) ≡ n
many zero = refl
many (suc n) = ap suc (many n)

pub opened : (player : PlayerState) (n : ℕ) → player.seats ≡ replicate n None → player.song.voices.items ≡ []
    → player.song.used ≡ n → n ≡ player.pass.register.sizes.channels → IsSongInRange player.song
    → player.pass.notes.held ≡ None → player.pass.notes.pins ≡ replicate n None → 8000 ≤ player.rate
    → player.rate ≤ 48000 → IsInOrder player
opened player n seats voices used channels range held pins low high = record {
  low = low;
  high = high;
  used = used ∙ channels;
  range = range;
  taken = λ taken is. absurd (none-some taken (sym held ∙ is));
  many = ap (λ (l : List (Option Seat)). length l) seats ∙ many n ∙ channels;
  pins = pins ∙ sym (ap (map pin_in) seats ∙ no_pins n);
  sounding = λ c within.
      ap (λ (l : List (Option Seat)). get_or (map (is_some {T = Seat}) l) c false) seats ∙ nobody n c
      ∙ sym (ap (sounds_on c) voices);
  heads = subst (All (λ (voice : Voice). KeepsHead player.seats voice.channel voice.head)) (sym voices)
      (λ i voice at. absurd (omega arith));
  seated = λ songs c stands.
      subst (IsSeated songs) (sym (ap (λ (l : List (Option Seat)). get_or l c None) seats ∙ empty n c))
      (λ seat is. absurd (none-some seat is));
}
