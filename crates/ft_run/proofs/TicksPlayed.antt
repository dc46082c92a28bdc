-- A player that plays one tick more.
use Rattle.std.proofs.Common.{◌≡◌, inl, inr, ℕ, ◌*◌, ◌≤◌, ℤ, List, [], ◌∷◌, ◌++◌, Option, Some, None, length, take, refl, ap, sym, subst, ◌∙◌, arith, append-nil, append_assoc, take-take}
use Rattle.std.specs.List.{Contains}
use Rattle.std.proofs.lemmas.List.{length-take}
use Rattle.std.proofs.lemmas.List.Elements.{All-nil, All-push, AllZip-push, Contains-append_left}
use Rattle.ft_types.specs.declared.tick_report.TickReport.{TickReport}
use Rattle.ft_replay.specs.declared.state.Place.{Place}
use Rattle.ft_replay.specs.Laws.{TicksGoOn, StateGoesOn}
use Rattle.ft_replay.specs.State.{SequentialState}
use Rattle.ft_replay.specs.Tick.{Tick, seq_tick}
use Rattle.ft_shared.specs.declared.law.Notes.{Notes}
use Rattle.ft_shared.specs.declared.law.TakenVersion.{TakenVersion}
use Rattle.ft_player.specs.declared.songs.Songs.{Songs}
use Rattle.ft_player.specs.Songs.{song_at}
use Rattle.ft_player.specs.Player.{PlayerState, ForAllBehind, HasLooked, IsPlayed, TakesAreOf, stood_by}
use Rattle.ft_run.specs.Ticks.{HaveLooked, HasPlayedTicks, HasTakenNumber, NeverFall, last_version_of, number_held, state_played, ticks_played}
use Rattle.ft_run.proofs.DeskSongs.{all_too}

-- ---- looks and takes

rising_push : (least : ℕ) (versions : List ℕ) (v : ℕ) → NeverFall least versions → last_version_of least versions ≤ v
    → NeverFall least (versions ++ v ∷ [])
rising_push least [] v n le = (le, tt)
rising_push least (x ∷ versions) v n le = (n.0, rising_push x versions v n.1 le)

last_push : (version : ℕ) (versions : List ℕ) (v : ℕ) → last_version_of version (versions ++ v ∷ []) ≡ v
last_push version [] v = refl
last_push version (x ∷ versions) v = last_push x versions v

held_below : (o : Option TakenVersion) (v : ℕ) → ((taken : TakenVersion) → o ≡ Some taken → taken.version ≤ v)
    → number_held o ≤ v
held_below None v le = omega arith
held_below (Some taken) v le = le taken refl

still_noted : (old new : Notes) (held : TakenVersion) (n : ℕ) → TakesAreOf old new held → HasTakenNumber old.takes n
    → HasTakenNumber new.takes n
still_noted old new held n (inl same) t = subst (λ (l : List TakenVersion). HasTakenNumber l n) (sym same.0) t
still_noted old new held n (inr more) t = (
  t.0,
  subst (λ (l : List TakenVersion). Contains l t.0) (sym more) (Contains-append_left old.takes (held ∷ []) t.0 t.1),
  t.2,
)

pub looked_never : (notes : Notes) → HaveLooked notes notes []
looked_never notes = record {
  looks = [];
  once = sym (append-nil notes.looks);
  current = tt;
  rising = tt;
  last = refl;
  taken = All-nil (HasTakenNumber notes.takes);
}

looked_on : (old now new : Notes) (versions : List ℕ) (v : ℕ) → HaveLooked old now versions → HasLooked now new v
    → HaveLooked old new (versions ++ v ∷ [])
looked_on old now new versions v h l = record {
  looks = h.looks ++ l.look ∷ [];
  once = l.once ∙ ap (λ (x : List ℕ). x ++ l.look ∷ []) h.once ∙ append_assoc old.looks h.looks (l.look ∷ []);
  current = AllZip-push (◌≤◌) h.looks versions l.look v h.current l.current;
  rising = rising_push (number_held old.held) versions v h.rising
      (subst (λ (n : ℕ). n ≤ v) h.last (held_below now.held v l.later));
  last = ap number_held l.holds ∙ l.number ∙ sym (last_push (number_held old.held) versions v);
  taken = All-push (HasTakenNumber new.takes) versions v
      (all_too (HasTakenNumber now.takes) (HasTakenNumber new.takes) versions
      (λ x t. still_noted now new l.held x l.takes t) h.taken)
      (l.held, l.taken, l.number);
}

-- ---- the sequential ticks

pub sound_long : (out sound : List ℤ) (frames : ℕ) → take (2 * frames) out ≡ sound → 2 * frames ≤ length out
    → length sound ≡ 2 * frames
sound_long out sound frames e le = sym (ap (λ (l : List ℤ). length l) e) ∙ (omega (arith, length-take (2 * frames) out))

-- a front of the numbers is a front of the tick's sound
pub piece_of : (out sound : List ℤ) (frames count : ℕ) → take (2 * frames) out ≡ sound → count ≤ frames
    → take (2 * count) out ≡ take (2 * count) sound
piece_of out sound frames count e le =
    sym (ap (take (2 * count)) (sym e) ∙ take-take (2 * count) (2 * frames) out (omega arith))

-- a tick of the player is this one
pub record IsTickOf (t : Tick) (report : TickReport) (out : List ℤ) : Type 0 where
  pub frames : t.place.frames ≡ report.frames
  pub sound : take (2 * report.frames) out ≡ t.sound
  pub long : length t.sound ≡ 2 * report.frames

tick_of : (songs : Songs) (rate : ℕ) (now later : PlayerState) (report : TickReport) (out : List ℤ)
    → IsPlayed songs now later report out → now.rate ≡ rate → report.frames ≤ 3750 → 7502 ≤ length out
    → IsTickOf (seq_tick report.version (song_at songs report.version) rate (stood_by songs now)) report out
tick_of songs rate now later report out played same few room =
    let at : ℕ → Tick = λ r. seq_tick report.version (song_at songs report.version) r (stood_by songs now) in
    let sound : take (2 * report.frames) out ≡ (at rate).sound = played.sound ∙ ap (λ (r : ℕ). (at r).sound) same in
    record {
      frames = sym (ap (λ (p : Place). p.frames) played.place ∙ ap (λ (r : ℕ). (at r).place.frames) same);
      sound = sound;
      long = sound_long out (at rate).sound report.frames sound (omega arith);
    }

module _ (ticks_law : TicksGoOn) (state_law : StateGoesOn) where
  ticks_push : (songs : Songs) (player : PlayerState) (versions : List ℕ) (v : ℕ) (state : SequentialState)
      → state ≡ state_played songs player versions
      → ticks_played songs player (versions ++ v ∷ [])
      ≡ ticks_played songs player versions ++ seq_tick v (song_at songs v) player.rate state ∷ []
  ticks_push songs player versions v state e =
      ticks_law (song_at songs) versions (v ∷ []) player.rate (stood_by songs player)
      ∙ ap (λ (s : SequentialState). ticks_played songs player versions ++ seq_tick v (song_at songs v) player.rate s ∷ []) (sym e)

  state_push : (songs : Songs) (player : PlayerState) (versions : List ℕ) (v : ℕ) (state : SequentialState)
      → state ≡ state_played songs player versions
      → state_played songs player (versions ++ v ∷ []) ≡ (seq_tick v (song_at songs v) player.rate state).state
  state_push songs player versions v state e =
      state_law (song_at songs) versions (v ∷ []) player.rate (stood_by songs player)
      ∙ ap (λ (s : SequentialState). (seq_tick v (song_at songs v) player.rate s).state) (sym e)

  -- one tick more was played
  pub plays_on : (True More : List Tick → Type 0) (old now later : PlayerState) (versions : List ℕ) (report : TickReport)
      (out : List ℤ) → HasPlayedTicks old now versions True
      → later.pass.register ≡ now.pass.register → later.rate ≡ now.rate
      → HasLooked now.pass.notes later.pass.notes report.version
      → ForAllBehind now later (λ songs. IsPlayed songs now later report out)
      → report.frames ≤ 3750 → 7502 ≤ length out
      → ((ticks : List Tick) (t : Tick) → True ticks → IsTickOf t report out → More (ticks ++ t ∷ []))
      → HasPlayedTicks old later (versions ++ report.version ∷ []) More
  plays_on True More old now later versions report out p register rate looked played few room more = record {
    register = register ∙ p.register;
    rate = rate ∙ p.rate;
    looked = looked_on old.pass.notes now.pass.notes later.pass.notes versions report.version p.looked looked;
    behind = λ songs stands.
        let a = played songs stands in
        let b = p.behind songs a.0 in
        let state = stood_by songs now in
        let t = seq_tick report.version (song_at songs report.version) old.rate state in (
          b.0,
          record {
            state = a.1.state
                ∙ ap (λ (r : ℕ). (seq_tick report.version (song_at songs report.version) r state).state) p.rate
                ∙ sym (state_push songs old versions report.version state b.1.state);
            ticks = subst More (sym (ticks_push songs old versions report.version state b.1.state))
                (more (ticks_played songs old versions) t b.1.ticks
                (tick_of songs old.rate now later report out a.1 p.rate few room));
          },
        );
  }

pub plays_never : (True : List Tick → Type 0) (player : PlayerState) → True [] → HasPlayedTicks player player [] True
plays_never True player true = record {
  register = refl;
  rate = refl;
  looked = looked_never player.pass.notes;
  behind = λ songs stands. (stands, record { state = refl; ticks = true });
}
