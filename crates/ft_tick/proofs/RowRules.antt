-- The rules of a tick's rows, over channels with what is kept for each.
use Rattle.std.proofs.Common.{◌≡◌, ◌≢◌, ℕ, ◌%◌, List, Bool, true, false, length, map, get_or, eqb, ap, sym, ◌∙◌}
use Rattle.std.proofs.lemmas.Bool.{eq-eqb, ne_eqb}
use Rattle.std.proofs.lemmas.List.{length-map}
use Rattle.ft_types.specs.declared.module.Module.{Module}
use Rattle.ft_types.specs.declared.voice.SampleHead.{SampleHead}
use Rattle.ft_types.specs.Views.{Shown}
use Rattle.ft_replay.specs.declared.state.Channel.{Channel}
use Rattle.ft_replay.specs.declared.state.Control.{Control}
use Rattle.ft_replay.specs.State.{Lane, SequentialState, blank_channel}
use Rattle.ft_replay.specs.Calls.{KeepsForAll}
use Rattle.ft_replay.specs.Standing.{state_of, lanes_of}
use Rattle.ft_replay.specs.Tick.{in_turn, first_turn, later_turn, after_rows, without_offsets, with_channels}
use Rattle.ft_tick.proofs.Kept.{keeps_same}
use Rattle.ft_tick.proofs.Lanes.{length-lanes_of, lanes_of-map}
use Rattle.ft_tick.proofs.Ranges.{at_map}

-- the state with its offsets and mutes cleared
fresh_of : SequentialState → SequentialState
fresh_of state = with_channels without_offsets state

cleared_state : (control : Control) (channels cleared : List Channel) (shown : Shown)
    → cleared ≡ map without_offsets channels
    → state_of control cleared shown ≡ fresh_of (state_of control channels shown)
unfolding fresh_of
cleared_state control channels cleared shown e =
    ap (λ (l : List Channel). state_of control l shown) e
    ∙ ap (λ (l : List Lane). record { control = control; lanes = l }) (lanes_of-map without_offsets channels shown.kept)

as_many : (channels cleared : List Channel) (shown : Shown) → cleared ≡ map without_offsets channels
    → length cleared ≡ length (lanes_of channels shown.kept)
as_many channels cleared shown e =
    ap (λ (l : List Channel). length l) e ∙ length-map channels without_offsets
    ∙ sym (length-lanes_of channels shown.kept)

-- at the start of a row
pub rows_first : (version : ℕ) (song : Module) (control : Control) (channels cleared : List Channel) (shown : Shown)
    → cleared ≡ map without_offsets channels → control.tick ≡ 0
    → in_turn (first_turn version song) (length cleared) (state_of control cleared shown)
    ≡ after_rows version song (state_of control channels shown)
unfolding after_rows fresh_of
rows_first version song control channels cleared shown e at =
    let is : eqb control.tick 0 ≡ true = eq-eqb control.tick 0 at in
    rw is (ap (λ (n : ℕ). in_turn (first_turn version song) n (state_of control cleared shown))
    (as_many channels cleared shown e)
    ∙ ap (in_turn (first_turn version song) (length (lanes_of channels shown.kept)))
    (cleared_state control channels cleared shown e))

-- where a row is repeated, at its first tick
pub rows_again : (version : ℕ) (song : Module) (control : Control) (channels cleared : List Channel) (shown : Shown)
    → cleared ≡ map without_offsets channels → control.tick ≢ 0
    → control.tick % control.tempo ≡ 0
    → state_of control cleared shown ≡ after_rows version song (state_of control channels shown)
unfolding after_rows fresh_of
rows_again version song control channels cleared shown e later again =
    let is : eqb control.tick 0 ≡ false = ne_eqb control.tick 0 later in
    let first : eqb (control.tick % control.tempo) 0 ≡ true = eq-eqb (control.tick % control.tempo) 0 again in
    rw (is, first) (cleared_state control channels cleared shown e)

-- in a later tick of a row
pub rows_later : (version : ℕ) (song : Module) (control : Control) (channels cleared : List Channel) (shown : Shown)
    → cleared ≡ map without_offsets channels → control.tick ≢ 0
    → control.tick % control.tempo ≢ 0
    → in_turn (later_turn version song) (length cleared) (state_of control cleared shown)
    ≡ after_rows version song (state_of control channels shown)
unfolding after_rows fresh_of
rows_later version song control channels cleared shown e later on =
    let is : eqb control.tick 0 ≡ false = ne_eqb control.tick 0 later in
    let rest : eqb (control.tick % control.tempo) 0 ≡ false = ne_eqb (control.tick % control.tempo) 0 on in
    rw (is, rest) (ap (λ (n : ℕ). in_turn (later_turn version song) n (state_of control cleared shown))
    (as_many channels cleared shown e)
    ∙ ap (in_turn (later_turn version song) (length (lanes_of channels shown.kept)))
    (cleared_state control channels cleared shown e))

-- cleared channels have the same voices
pub keeps_cleared : (a c : ℕ → SampleHead → Type 0) (h l : List Bool) (channels cleared z : List Channel)
    → cleared ≡ map without_offsets channels
    → KeepsForAll a c h l cleared z → KeepsForAll a c h l channels z
keeps_cleared a c h l channels cleared z e p =
    keeps_same a c h l channels cleared z (ap (λ (x : List Channel). length x) e ∙ length-map channels without_offsets)
    (λ d lt.
    ap (λ (x : List Channel). (get_or x d blank_channel).voice) e
    ∙ ap (λ (x : Channel). x.voice) (at_map without_offsets channels d blank_channel lt)) p
