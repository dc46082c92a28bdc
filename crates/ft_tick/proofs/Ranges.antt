-- What a rule of each channel leaves in range.
use Rattle.std.proofs.Common.{◌≡◌, ℕ, zero, suc, ◌<◌, List, [], ◌∷◌, length, get_or, map, refl, sym, subst, arith, rules}
use Rattle.std.proofs.lemmas.List.{length-map}
use Rattle.ft_types.specs.declared.pattern.Cell.{Cell}
use Rattle.ft_types.specs.Valid.{IsValidCell}
use Rattle.ft_replay.specs.declared.state.Channel.{Channel}
use Rattle.ft_replay.specs.State.{blank_channel}
use Rattle.ft_replay.specs.Range.{IsChannelInRange, AreInRange}
use Rattle.ft_replay.specs.Tick.{without_loop, without_offsets}

pub at_map : (rule : Channel → Channel) (channels : List Channel) (c : ℕ) (d : Channel) → c < length channels
    → get_or (map rule channels) c d ≡ rule (get_or channels c d)
at_map rule [] c d lt = absurd (omega arith)
at_map rule (channel ∷ channels) zero d lt = refl
at_map rule (channel ∷ channels) (suc c) d lt = at_map rule channels c d (omega arith)

pub map_in_range : (rule : Channel → Channel) (channels : List Channel)
    → ((c : ℕ) (channel : Channel) → IsChannelInRange c channel → IsChannelInRange c (rule channel))
    → AreInRange channels → AreInRange (map rule channels)
map_in_range rule channels each p c lt =
    let inside : c < length channels = omega (arith, length-map channels rule) in
    subst (IsChannelInRange c) (sym (at_map rule channels c blank_channel inside))
    (each c (get_or channels c blank_channel) (p c inside))

pub without_loop_in_range : (c : ℕ) (channel : Channel) → IsChannelInRange c channel
    → IsChannelInRange c (without_loop channel)
without_loop_in_range c channel p = record { memory = search rules; voice = p.voice; home = p.home }

pub without_offsets_in_range : (c : ℕ) (channel : Channel) → IsChannelInRange c channel
    → IsChannelInRange c (without_offsets channel)
without_offsets_in_range c channel p = record { memory = search rules; voice = p.voice; home = p.home }

-- channels without a loop are as many, and in range
pub ended_in_range : (channels left : List Channel) → left ≡ map without_loop channels → AreInRange channels
    → AreInRange left
ended_in_range channels left e p = subst AreInRange (sym e) (map_in_range without_loop channels without_loop_in_range p)

pub cleared_in_range : (channels left : List Channel) → left ≡ map without_offsets channels → AreInRange channels
    → AreInRange left
cleared_in_range channels left e p =
    subst AreInRange (sym e) (map_in_range without_offsets channels without_offsets_in_range p)

pub with_cell_in_range : (c : ℕ) (channel : Channel) (cell : Cell) → IsChannelInRange c channel → IsValidCell cell
    → IsChannelInRange c (record channel { cell = cell })
with_cell_in_range c channel cell p valid =
    record { memory = let m = p.memory in search rules; voice = p.voice; home = p.home }
