-- The state before the first tick.
use Rattle.std.proofs.Common.{◌≡◌, ℕ, zero, suc, ◌<◌, ◌≤◌, List, [], ◌∷◌, Option, None, take, replicate, get_or, refl, ap, sym, subst, ◌∙◌, arith, rules}
use Rattle.std.proofs.lemmas.List.{take-replicate, length-replicate}
use Rattle.ft_types.specs.Views.{Owned, Shown}
use Rattle.ft_replay.specs.declared.state.Channel.{Channel}
use Rattle.ft_replay.specs.State.{Lane, blank_channel, first_channel, first_control, first_state}
use Rattle.ft_replay.specs.Range.{IsBetweenTicks, IsMemoryInRange}
use Rattle.ft_replay.specs.Standing.{IsAscending, lanes_of, state_of, seated}

-- as many channels, for which nothing is kept
unkept : (channel : Channel) (n : ℕ)
    → lanes_of (replicate n channel) (replicate n None) ≡ replicate n (record { channel = channel; owned = None })
unkept channel zero = refl
unkept channel (suc n) = ap (λ (l : List Lane). record { channel = channel; owned = None } ∷ l) (unkept channel n)

pub first_stands : (shown : Shown) (channels : ℕ) → channels ≤ 32 → shown.kept ≡ replicate channels None
    → state_of first_control (seated (take channels (replicate 32 first_channel)) []) shown ≡ first_state channels
first_stands shown channels few none =
    ap (λ (l : List Lane). record { control = first_control; lanes = l })
    (ap (λ (l : List Channel). lanes_of l shown.kept) (take-replicate channels 32 first_channel few)
    ∙ ap (λ (l : List (Option Owned)). lanes_of (replicate channels first_channel) l) none
    ∙ unkept first_channel channels)

same_of_all : (channel d : Channel) (n c : ℕ) → c < n → get_or (replicate n channel) c d ≡ channel
same_of_all channel d zero c lt = absurd (omega (arith, lt))
same_of_all channel d (suc n) zero lt = refl
same_of_all channel d (suc n) (suc c) lt = same_of_all channel d n c (omega (arith, lt))

pub first_in_range : (channels : ℕ) → channels ≤ 32
    → IsBetweenTicks channels first_control (replicate 32 first_channel) []
unfolding IsAscending
first_in_range channels few = record {
  few = few;
  room = omega (arith, length-replicate 32 first_channel);
  control = search rules;
  channels =
      λ c lt. subst IsMemoryInRange (sym (same_of_all first_channel blank_channel 32 c (omega arith))) (search rules);
  seats = λ c lt. ap (λ (x : Channel). x.voice) (same_of_all first_channel blank_channel 32 c (omega arith));
  ascend = tt;
  voices = λ i d lt. absurd (omega arith);
}
