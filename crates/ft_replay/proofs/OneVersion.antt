-- The replay of a song that nobody edits.
use Rattle.std.proofs.Common.{◌≡◌, ◌≤◌, ◌+◌, ◌-◌, ◌*◌, ℕ, zero, suc, List, [], ◌∷◌, ◌++◌, length, take, replicate, flat_map, refl, ap, sym, ◌∙◌, subst, arith}
use Rattle.std.proofs.lemmas.Grind.{flat_map-append}
use Rattle.std.proofs.lemmas.List.Sums.{sum_by-cons}
use Rattle.std.proofs.lemmas.List.{length-append, take-append-le, replicate-append-replicate}
use Rattle.ft_types.specs.declared.module.Module.{Module}
use Rattle.ft_replay.specs.State.{Lane, SequentialState, first_state}
use Rattle.ft_replay.specs.Replay.{ticks_from, state_after, replay, sound_of_ticks, sound_from, sound_of_song}
use Rattle.ft_replay.specs.Sound.{sound_of, frame_at, stereo}
use Rattle.ft_replay.specs.Tick.{Tick, seq_tick}
use Rattle.ft_replay.specs.Laws.{frames_of_ticks, unedited_ticks}
use Rattle.ft_replay.proofs.Replays.{ticks_go_on}

-- a sound has two numbers a frame
sound_long : (lanes : List Lane) (frames : ℕ) → length (sound_of lanes frames) ≡ 2 * frames
unfolding sound_of frame_at
sound_long lanes zero = refl
sound_long lanes (suc frames) =
    let before = sound_long lanes frames in
    let joined = length-append (sound_of lanes frames) (frame_at lanes frames) in
    omega (arith, before, joined)

tick_long : (version : ℕ) (song : Module) (rate : ℕ) (state : SequentialState)
    → length (seq_tick version song rate state).sound ≡ 2 * (seq_tick version song rate state).place.frames
unfolding seq_tick
tick_long version song rate state = sound_long _ _

ticks_long : (song_at : ℕ → Module) (versions : List ℕ) (rate : ℕ) (state : SequentialState)
    → length (sound_of_ticks (ticks_from song_at versions rate state))
    ≡ 2 * frames_of_ticks (ticks_from song_at versions rate state)
ticks_long song_at [] rate state = refl
ticks_long song_at (version ∷ versions) rate state =
    let tick = seq_tick version (song_at version) rate state in
    let first = tick_long version (song_at version) rate state in
    let rest = ticks_from song_at versions rate tick.state in
    let others = ticks_long song_at versions rate tick.state in
    let joined : length (sound_of_ticks (tick ∷ rest)) ≡ length tick.sound + length (sound_of_ticks rest) =
    length-append tick.sound (sound_of_ticks rest) in
    let summed : frames_of_ticks (tick ∷ rest) ≡ tick.place.frames + frames_of_ticks rest =
    sum_by-cons (λ (it : Tick). it.place.frames) tick rest in
    omega (arith, first, others, joined, summed)

sound_joins : (ticks more : List Tick) → sound_of_ticks (ticks ++ more) ≡ sound_of_ticks ticks ++ sound_of_ticks more
sound_joins ticks more = flat_map-append (λ (tick : Tick). tick.sound) ticks more

-- where some ticks hold the frames, more ticks change nothing
enough : (song_at : ℕ → Module) (versions more : List ℕ) (count rate : ℕ) (state : SequentialState)
    → count ≤ frames_of_ticks (ticks_from song_at versions rate state)
    → take (2 * count) (sound_of_ticks (ticks_from song_at (versions ++ more) rate state))
    ≡ take (2 * count) (sound_of_ticks (ticks_from song_at versions rate state))
enough song_at versions more count rate state le =
    let ticks = ticks_from song_at versions rate state in
    let on = ticks_from song_at more rate (state_after song_at versions rate state) in
    ap (λ (l : List Tick). take (2 * count) (sound_of_ticks l)) (ticks_go_on song_at versions more rate state)
    ∙ ap (take (2 * count)) (sound_joins ticks on)
    ∙ take-append-le (2 * count) (sound_of_ticks ticks) (sound_of_ticks on)
    (omega (arith, le, ticks_long song_at versions rate state))

pub one_version : (song : Module) (count rate many : ℕ) → many ≤ count
    → count ≤ frames_of_ticks (unedited_ticks song many rate)
    → (replay song.channels (λ version. song) (replicate many 0) count rate).sound ≡ sound_of_song song count rate
unfolding replay sound_from
one_version song count rate many few le =
    let z : ℕ = 0 in
    let first = first_state song.channels in
    let song_at : ℕ → Module = λ version. song in
    let all : replicate many z ++ replicate (count - many) z ≡ replicate count z =
    replicate-append-replicate many (count - many) z ∙ ap (λ n. replicate n z) (omega arith) in
    sym (enough song_at (replicate many z) (replicate (count - many) z) count rate first le)
    ∙ ap (λ (l : List ℕ). take (2 * count) (sound_of_ticks (ticks_from song_at l rate first))) all
