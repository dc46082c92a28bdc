-- What a note makes of a channel: nothing, the end of its voice, or a new one.
use Rattle.std.proofs.Common.{◌≡◌, ℕ, ◌-◌, ◌&&◌, Option, None, Some, Bool, true, false, get_or, refl, ap, ◌∙◌}
use Rattle.std.specs.Prelude.{nat_lt}
use Rattle.std.proofs.lemmas.List.{set-set, set-get_or}
use Rattle.ft_types.specs.declared.module.Module.{Module}
use Rattle.ft_types.specs.declared.pattern.Cell.{Cell}
use Rattle.ft_types.specs.declared.voice.SampleHead.{SampleHead}
use Rattle.ft_types.specs.Views.{Owned, Shown, begun, head_of, head_of_owned, keeping}
use Rattle.ft_tables.specs.Pitch.{is_played, played_note}
use Rattle.ft_replay.specs.declared.state.Channel.{Channel}
use Rattle.ft_replay.specs.State.{Lane}
use Rattle.ft_replay.specs.Row.{Start, no_start, start_of, begin_of, start_frame, without_voice, with_voice, new_voice, note_period}
use Rattle.ft_replay.specs.Standing.{lane_of}
use Rattle.ft_channel.specs.Starting.{Started}

-- ---- what is kept

pub keeping_twice : (c : ℕ) (a b : Option Owned) (shown : Shown) → keeping c b (keeping c a shown) ≡ keeping c b shown
keeping_twice c a b shown = rw set-set refl

pub keeping_same : (c : ℕ) (shown : Shown) → shown ≡ keeping c (get_or shown.kept c None) shown
keeping_same c shown = rw (set-get_or shown.kept c None) refl

-- ---- the rule of a start

-- whether a note begins a voice at a frame of a sample of this head
abbrev pub can_begin : Cell → ℕ → SampleHead → Bool
can_begin cell frame head = is_played (played_note cell.note head.relative) && nat_lt frame head.frames

start_missing : (song : Module) (c : ℕ) (cell : Cell) (frame : ℕ) (owned : Option Owned) (lane : Lane)
    → head_of_owned owned ≡ None
    → (start_of song c cell frame owned lane ≡ no_start (without_voice lane)) × (owned ≡ None)
start_missing song c cell frame None lane e = (refl, refl)
start_missing song c cell frame (Some owned) lane e = absurd cc

start_not : (song : Module) (c : ℕ) (cell : Cell) (frame : ℕ) (owned : Option Owned) (head : SampleHead) (lane : Lane)
    → head_of_owned owned ≡ Some head → can_begin cell frame head ≡ false
    → start_of song c cell frame owned lane ≡ no_start (without_voice lane)
start_not song c cell frame None head lane e wrong = refl
start_not song c cell frame (Some owned) head lane e wrong =
    let same : head_of owned.sample ≡ head = cc in
    let late : can_begin cell frame (head_of owned.sample) ≡ false = ap (can_begin cell frame) same ∙ wrong in
    rw late refl

abbrev begun_start : Module → ℕ → Cell → ℕ → Option Owned → SampleHead → Lane → Start
begun_start song c cell frame owned head lane = record {
  lane = record { channel = with_voice (new_voice c frame head) (note_period song cell head) lane.channel; owned = owned };
  began = true;
}

start_so : (song : Module) (c : ℕ) (cell : Cell) (frame : ℕ) (owned : Option Owned) (head : SampleHead) (lane : Lane)
    → head_of_owned owned ≡ Some head → can_begin cell frame head ≡ true
    → start_of song c cell frame owned lane ≡ begun_start song c cell frame owned head lane
start_so song c cell frame None head lane e right = absurd cc
start_so song c cell frame (Some owned) head lane e right =
    let same : head_of owned.sample ≡ head = cc in
    let begins : can_begin cell frame (head_of owned.sample) ≡ true = ap (can_begin cell frame) same ∙ right in
    rw begins (ap (λ (h : SampleHead). begun_start song c cell frame (Some owned) h lane) same)

-- ---- the rule of a note that begins

-- a note without a sample ends the voice that is there
pub begin_missing : (before after : Shown) (c : ℕ) (cell : Cell) (channel : Channel)
    → head_of_owned (begun before.version before.song channel.instrument (cell.note - 1)) ≡ None
    → after ≡ keeping c (begun before.version before.song channel.instrument (cell.note - 1)) before
    → Started c (begin_of before.version before.song c cell (lane_of c before channel)) before after
    (record channel { voice = None }) false
begin_missing before after c cell channel e kept =
    let ends =
    start_missing before.song c cell (start_frame cell channel)
    (begun before.version before.song channel.instrument (cell.note - 1)) (lane_of c before channel) e in
    let nothing = kept ∙ ap (λ (owned : Option Owned). keeping c owned before) ends.1 in
    rw ends.0 (record { lane = record { same = refl; kept = nothing }; same = refl })

-- and so does one that can't begin
pub begin_not : (before after : Shown) (c : ℕ) (cell : Cell) (channel : Channel) (head : SampleHead)
    → head_of_owned (begun before.version before.song channel.instrument (cell.note - 1)) ≡ Some head
    → can_begin cell (start_frame cell channel) head ≡ false → after ≡ keeping c None before
    → Started c (begin_of before.version before.song c cell (lane_of c before channel)) before after
    (record channel { voice = None }) false
begin_not before after c cell channel head e wrong kept =
    let ends =
    start_not before.song c cell (start_frame cell channel)
    (begun before.version before.song channel.instrument (cell.note - 1)) head (lane_of c before channel) e wrong in
    rw ends (record { lane = record { same = refl; kept = kept }; same = refl })

-- a note that can begin begins its voice
pub begin_so :
    (before after : Shown) (c : ℕ) (cell : Cell) (channel channel_after : Channel) (head : SampleHead) (period : ℕ)
    → head_of_owned (begun before.version before.song channel.instrument (cell.note - 1)) ≡ Some head
    → can_begin cell (start_frame cell channel) head ≡ true
    → after ≡ keeping c (begun before.version before.song channel.instrument (cell.note - 1)) before
    → period ≡ note_period before.song cell head
    → channel_after ≡ with_voice (new_voice c (start_frame cell channel) head) period channel
    → Started c (begin_of before.version before.song c cell (lane_of c before channel)) before after channel_after true
begin_so before after c cell channel channel_after head period e right kept pitch made =
    let starts =
    start_so before.song c cell (start_frame cell channel)
    (begun before.version before.song channel.instrument (cell.note - 1)) head (lane_of c before channel) e right in
    let same = made ∙ ap (λ (p : ℕ). with_voice (new_voice c (start_frame cell channel) head) p channel) pitch in
    rw starts (record { lane = record { same = same; kept = kept }; same = refl })
