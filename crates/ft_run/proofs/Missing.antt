-- Ticks of which frames are missing, and their sound.
use Rattle.std.proofs.Common.{◌≡◌, ℕ, zero, suc, ◌+◌, ◌-◌, ◌*◌, ◌≤◌, ◌==◌, false, ℤ, List, [], ◌∷◌, ◌++◌, length, take, min, replicate, refl, ap, sym, ◌∙◌, arith, append_assoc, ltb}
use Rattle.std.proofs.lemmas.Bool.{cond_both, ltb-true, ltb-false, ne_eqb}
use Rattle.std.proofs.lemmas.List.{append-nil, length-append, take_all, take-append-le}
use Rattle.std.proofs.Math.Seq.{take-append-add}
use Rattle.ft_types.specs.declared.module.Module.{Module}
use Rattle.ft_out.specs.Wav.{sound_bytes, number_bytes}
use Rattle.ft_replay.specs.Laws.{TicksGoOn}
use Rattle.ft_replay.specs.State.{SequentialState}
use Rattle.ft_replay.specs.Replay.{ticks_from, state_after, sound_of_ticks, sound_from}
use Rattle.ft_replay.specs.Tick.{Tick, seq_tick}
use Rattle.ft_run.specs.Measure.{ticks_within}
use Rattle.ft_run.specs.Ticks.{AreMissing, cut_sound}

-- ---- numbers and their bytes

pub sound_bytes-append : (a b : List ℤ) → sound_bytes (a ++ b) ≡ sound_bytes a ++ sound_bytes b
sound_bytes-append [] b = refl
sound_bytes-append (x ∷ a) b =
    ap (λ (l : List ℕ). number_bytes x ++ l) (sound_bytes-append a b)
    ∙ sym (append_assoc (number_bytes x) (sound_bytes a) (sound_bytes b))

sound-append : (a b : List Tick) → sound_of_ticks (a ++ b) ≡ sound_of_ticks a ++ sound_of_ticks b
sound-append [] b = refl
sound-append (x ∷ a) b =
    ap (λ (l : List ℤ). x.sound ++ l) (sound-append a b)
    ∙ sym (append_assoc x.sound (sound_of_ticks a) (sound_of_ticks b))

-- ---- what is missing

pub missing_push : (wanted missing : ℕ) (ticks : List Tick) (t : Tick) → AreMissing wanted ticks missing → 1 ≤ missing
    → 1 ≤ t.place.frames → length t.sound ≡ 2 * t.place.frames
    → AreMissing wanted (ticks ++ t ∷ []) (missing - t.place.frames)
missing_push wanted missing [] t m some one long =
    (omega (arith, m, some), one, long, ap (λ (n : ℕ). n - t.place.frames) m)
missing_push wanted missing (x ∷ ticks) t m some one long =
    (m.0, m.1, m.2, missing_push (wanted - x.place.frames) missing ticks t m.3 some one long)

-- the numbers so far, while frames are missing
pub long_so_far : (wanted missing : ℕ) (ticks : List Tick) → AreMissing wanted ticks missing → 1 ≤ missing
    → length (sound_of_ticks ticks) + 2 * missing ≡ 2 * wanted
long_so_far wanted missing [] m some = let e : length (sound_of_ticks []) ≡ 0 = refl in omega (arith, m, e)
long_so_far wanted missing (x ∷ ticks) m some =
    let rest = long_so_far (wanted - x.place.frames) missing ticks m.3 some in
    let both = length-append x.sound (sound_of_ticks ticks) in
    let long = m.2 in omega (arith, rest, both, long, some)

-- and in the end
pub long_enough : (wanted missing : ℕ) (ticks : List Tick) → AreMissing wanted ticks missing
    → 2 * wanted ≤ length (sound_of_ticks ticks) + 2 * missing
long_enough wanted missing [] m = omega (arith, m)
long_enough wanted missing (x ∷ ticks) m =
    let rest = long_enough (wanted - x.place.frames) missing ticks m.3 in
    let both = length-append x.sound (sound_of_ticks ticks) in
    let long = m.2 in omega (arith, rest, both, long)

-- each tick has a frame
pub few_ticks : (wanted missing : ℕ) (ticks : List Tick) → AreMissing wanted ticks missing → length ticks ≤ wanted
few_ticks wanted missing [] m = omega arith
few_ticks wanted missing (x ∷ ticks) m =
    let rest = few_ticks (wanted - x.place.frames) missing ticks m.3 in
    let some = m.0 in let one = m.1 in omega (arith, rest, some, one)

-- ---- one tick more is heard

take_past : (n : ℕ) (a b : List ℤ) → length a ≤ n → take n (a ++ b) ≡ a ++ take (n - length a) b
take_past n a b le =
    let e : n ≡ length a + (n - length a) = omega arith in
    ap (λ (k : ℕ). take k (a ++ b)) e ∙ take-append-add a b (n - length a)

-- a tick that is cut by what is missing
cut_same : (sound : List ℤ) (n left count : ℕ) → length sound ≡ 2 * n → count ≡ min n left
    → take (2 * left) sound ≡ take (2 * count) sound
cut_same sound n left count many least =
    cond_both (ltb left n) tt tt (λ (x : Unit {0}). take (2 * left) sound ≡ take (2 * count) sound)
    (λ is.
    let lt = ltb-true left n is in
    ap (λ (k : ℕ). take (2 * k) sound) (let e : left ≡ count = omega (arith, least) in e))
    (λ is.
    let le = ltb-false left n is in
    let e : count ≡ n = omega (arith, least) in
    take_all (2 * left) sound (omega arith) ∙ sym (take_all (2 * count) sound (omega arith)))

pub cut_on : (wanted missing n count : ℕ) (ticks : List Tick) (t : Tick) → AreMissing wanted ticks missing → 1 ≤ missing
    → length t.sound ≡ 2 * n → count ≡ min n missing
    → cut_sound wanted (ticks ++ t ∷ []) ≡ cut_sound wanted ticks ++ take (2 * count) t.sound
cut_on wanted missing n count ticks t m some many least =
    let long = long_so_far wanted missing ticks m some in
    let so_far = sound_of_ticks ticks in
    let within : length so_far ≤ 2 * wanted = omega (arith, long) in
    let gap : 2 * wanted - length so_far ≡ 2 * missing = omega (arith, long) in
    ap (take (2 * wanted)) (sound-append ticks (t ∷ []) ∙ ap (λ (l : List ℤ). so_far ++ l) (append-nil t.sound))
    ∙ take_past (2 * wanted) so_far t.sound within
    ∙ ap (λ (k : ℕ). so_far ++ take k t.sound) gap
    ∙ ap (λ (l : List ℤ). so_far ++ l) (cut_same t.sound n missing count many least)
    ∙ ap (λ (l : List ℤ). l ++ take (2 * count) t.sound) (sym (take_all (2 * wanted) so_far within))

-- ---- one version of a song

replicate-add : (m n version : ℕ) → replicate (m + n) version ≡ replicate m version ++ replicate n version
replicate-add zero n version = ap (λ (k : ℕ). replicate k version) (let e : zero + n ≡ n = omega arith in e)
replicate-add (suc m) n version =
    ap (λ (k : ℕ). replicate k version) (let e : suc m + n ≡ suc (m + n) = omega arith in e)
    ∙ ap (λ (l : List ℕ). version ∷ l) (replicate-add m n version)

-- that many ticks on it
abbrev pub song_ticks : Module → ℕ → SequentialState → ℕ → List Tick
song_ticks song rate state many = ticks_from (λ version. song) (replicate many 0) rate state

pub as_many : (song_at : ℕ → Module) (versions : List ℕ) (rate : ℕ) (state : SequentialState)
    → length (ticks_from song_at versions rate state) ≡ length versions
as_many song_at [] rate state = refl
as_many song_at (v ∷ versions) rate state =
    ap suc (as_many song_at versions rate (seq_tick v (song_at v) rate state).state)

repeated : (many : ℕ) → length {A = ℕ} (replicate many 0) ≡ many
repeated zero = refl
repeated (suc many) = ap suc (repeated many)

-- no more ticks than frames
pub few_of_song : (song : Module) (rate wanted missing many : ℕ) (state : SequentialState)
    → AreMissing wanted (song_ticks song rate state many) missing → many ≤ wanted
few_of_song song rate wanted missing many state m =
    let few = few_ticks wanted missing (song_ticks song rate state many) m in
    let same = as_many (λ version. song) (replicate many 0) rate state in
    let long = repeated many in omega (arith, few, same, long)

module _ (ticks_law : TicksGoOn) (song : Module) (rate : ℕ) (first : SequentialState) where
  split : (m n : ℕ) → (rest : List ℤ) × (sound_of_ticks (song_ticks song rate first (m + n))
      ≡ sound_of_ticks (song_ticks song rate first m) ++ rest)
  split m n = (
    sound_of_ticks (ticks_from (λ _. song) (replicate n 0) rate (state_after (λ _. song) (replicate m 0) rate first)),
    ap (λ (l : List ℕ). sound_of_ticks (ticks_from (λ _. song) l rate first)) (replicate-add m n 0)
        ∙ ap sound_of_ticks (ticks_law (λ _. song) (replicate m 0) (replicate n 0) rate first)
        ∙ sound-append (song_ticks song rate first m)
        (ticks_from (λ _. song) (replicate n 0) rate (state_after (λ _. song) (replicate m 0) rate first)),
  )

  whole_split : (wanted many : ℕ) → many ≤ wanted → (rest : List ℤ) × (sound_of_ticks (song_ticks song rate first wanted)
      ≡ sound_of_ticks (song_ticks song rate first many) ++ rest)
  whole_split wanted many few =
      let e : wanted ≡ many + (wanted - many) = omega arith in
      let s = split many (wanted - many) in
      (s.0, ap (λ (k : ℕ). sound_of_ticks (song_ticks song rate first k)) e ∙ s.1)

  -- all is heard once nothing is missing
  pub heard_all : (wanted many : ℕ) → AreMissing wanted (song_ticks song rate first many) 0
      → cut_sound wanted (song_ticks song rate first many) ≡ sound_from 0 song wanted rate first
  unfolding sound_from
  heard_all wanted many m =
      let s = whole_split wanted many (few_of_song song rate wanted 0 many first m) in
      let enough = long_enough wanted 0 (song_ticks song rate first many) m in
      sym
      (ap (take (2 * wanted)) s.1
      ∙ take-append-le (2 * wanted) (sound_of_ticks (song_ticks song rate first many)) s.0 (omega (arith, enough)))

  -- and a front of it before
  pub heard_front : (wanted missing many : ℕ) → AreMissing wanted (song_ticks song rate first many) missing
      → (rest : List ℤ) × (sound_from 0 song wanted rate first ≡ cut_sound wanted (song_ticks song rate first many) ++ rest)
  unfolding sound_from
  heard_front wanted missing many m =
      let s = whole_split wanted many (few_of_song song rate wanted missing many first m) in
      let f = front_of (2 * wanted) (sound_of_ticks (song_ticks song rate first many)) s.0 in
      (f.0, ap (take (2 * wanted)) s.1 ∙ f.1)
    where
      front_of : (n : ℕ) (a b : List ℤ) → (rest : List ℤ) × (take n (a ++ b) ≡ take n a ++ rest)
      front_of n [] b = (take n b, take_nil n b)
        where
          take_nil : (n : ℕ) (b : List ℤ) → take n b ≡ take n [] ++ take n b
          take_nil zero b = refl
          take_nil (suc n) b = refl
      front_of zero (x ∷ a) b = ([], refl)
      front_of (suc n) (x ∷ a) b =
          let f = front_of n a b in (f.0, ap (λ (l : List ℤ). x ∷ l) f.1)

-- a tick is needed as long as frames are missing
one_more : (song : Module) (rate most left : ℕ) (state : SequentialState) → 1 ≤ left
    → ticks_within (suc most) 0 song rate left state
    ≡ suc (ticks_within most 0 song rate (left - (seq_tick 0 song rate state).place.frames) (seq_tick 0 song rate state).state)
one_more song rate most left state some =
    let test : (left == 0) ≡ false = ne_eqb left 0 (λ e. absurd (omega (arith, e))) in
    rw test refl

none_needed : (song : Module) (rate most left : ℕ) (state : SequentialState) → left ≡ 0
    → ticks_within most 0 song rate left state ≡ 0
none_needed song rate zero left state e = refl
none_needed song rate (suc most) left state e = rw e refl

-- that many ticks are needed
pub all_needed : (song : Module) (rate most wanted many : ℕ) (state : SequentialState) → many ≤ most
    → AreMissing wanted (song_ticks song rate state many) 0 → many ≡ ticks_within most 0 song rate wanted state
all_needed song rate most wanted zero state few m = sym (none_needed song rate most wanted state (sym m))
all_needed song rate zero wanted (suc many) state few m = absurd (omega (arith, few))
all_needed song rate (suc most) wanted (suc many) state few m =
    let next = seq_tick 0 song rate state in
    let rest = all_needed song rate most (wanted - next.place.frames) many next.state (omega (arith, few)) m.3 in
    ap suc rest ∙ sym (one_more song rate most wanted state m.0)
