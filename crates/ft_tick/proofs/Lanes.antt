-- Channels with what is kept for each.
use Rattle.std.proofs.Common.{◌≡◌, ℕ, zero, suc, ◌≤◌, ◌<◌, ◌+◌, List, [], ◌∷◌, Option, None, length, get_or, set, map, refl, ap, sym, ◌∙◌, arith, add-one}
use Rattle.ft_types.specs.declared.module.Module.{Module}
use Rattle.ft_types.specs.Views.{Owned, Shown}
use Rattle.ft_replay.specs.declared.state.Channel.{Channel}
use Rattle.ft_replay.specs.declared.state.Control.{Control}
use Rattle.ft_replay.specs.State.{Lane, SequentialState, Turn, blank_lane, blank_channel}
use Rattle.ft_replay.specs.Row.{with_channel}
use Rattle.ft_replay.specs.Standing.{turn_of, lanes_of, state_of, Turned, Made}
use Rattle.ft_replay.specs.Tick.{turn_at, with_turn, one_turn, in_turn}

pub length-lanes_of : (channels : List Channel) (kept : List (Option Owned))
    → length (lanes_of channels kept) ≡ length channels
length-lanes_of [] kept = refl
length-lanes_of (channel ∷ channels) [] = ap suc (length-lanes_of channels [])
length-lanes_of (channel ∷ channels) (owned ∷ kept) = ap suc (length-lanes_of channels kept)

pub get_or-lanes_of : (channels : List Channel) (kept : List (Option Owned)) (c : ℕ) (d : Channel) → c < length channels
    → get_or (lanes_of channels kept) c blank_lane
    ≡ record { channel = get_or channels c d; owned = get_or kept c None }
get_or-lanes_of [] kept c d lt = absurd (omega arith)
get_or-lanes_of (channel ∷ channels) [] zero d lt = refl
get_or-lanes_of (channel ∷ channels) [] (suc c) d lt = get_or-lanes_of channels [] c d (omega arith)
get_or-lanes_of (channel ∷ channels) (owned ∷ kept) zero d lt = refl
get_or-lanes_of (channel ∷ channels) (owned ∷ kept) (suc c) d lt = get_or-lanes_of channels kept c d (omega arith)

pub set-lanes_of : (channels : List Channel) (kept : List (Option Owned)) (c : ℕ) (channel : Channel)
    (owned : Option Owned) → length channels ≤ length kept
    → lanes_of (set channels c channel) (set kept c owned)
    ≡ set (lanes_of channels kept) c (record { channel = channel; owned = owned })
set-lanes_of [] kept c channel owned le = refl
set-lanes_of (x ∷ channels) [] c channel owned le = absurd (omega arith)
set-lanes_of (x ∷ channels) (y ∷ kept) zero channel owned le = refl
set-lanes_of (x ∷ channels) (y ∷ kept) (suc c) channel owned le =
    ap (λ (l : List Lane). record { channel = x; owned = y } ∷ l)
    (set-lanes_of channels kept c channel owned (omega arith))

pub lanes_of-map : (rule : Channel → Channel) (channels : List Channel) (kept : List (Option Owned))
    → lanes_of (map rule channels) kept ≡ map (with_channel rule) (lanes_of channels kept)
lanes_of-map rule [] kept = refl
lanes_of-map rule (channel ∷ channels) [] =
    ap (λ (l : List Lane). record { channel = rule channel; owned = None } ∷ l) (lanes_of-map rule channels [])
lanes_of-map rule (channel ∷ channels) (owned ∷ kept) =
    ap (λ (l : List Lane). record { channel = rule channel; owned = owned } ∷ l) (lanes_of-map rule channels kept)

-- a turn of one channel, seen in the whole state
turned :
    (rule : ℕ → Turn → Turn) (c : ℕ) (before after : Shown) (control control_after : Control) (channels : List Channel)
    (channel : Channel)
    → c < length channels → length channels ≤ length before.kept
    → Turned c (rule c (turn_of c before (get_or channels c blank_channel) control)) before after channel control_after
    → state_of control_after (set channels c channel) after ≡ one_turn rule c (state_of control channels before)
turned rule c before after control control_after channels channel lt le t =
    let made : Turn = rule c (turn_of c before (get_or channels c blank_channel) control) in
    let at : turn_at c (state_of control channels before) ≡ turn_of c before (get_or channels c blank_channel) control =
    ap (λ (l : Lane). record { lane = l; control = control }) (get_or-lanes_of channels before.kept c blank_channel lt)
    in
    let new : state_of control_after (set channels c channel) after
    ≡ with_turn c made (state_of control channels before) =
    rw (t.same, t.lane.same, t.lane.kept)
    (ap (λ (l : List Lane). record { control = made.control; lanes = l })
    (set-lanes_of channels before.kept c made.lane.channel made.lane.owned le)) in
    new ∙ ap (λ (x : Turn). with_turn c (rule c x) (state_of control channels before)) (sym at)

-- the same with what is behind the view before and after
pub turn_made :
    (rule : ℕ → Module → ℕ → Turn → Turn) (c : ℕ) (before after : Shown) (control control_after : Control)
    (channels : List Channel) (channel : Channel)
    → c < length channels → length channels ≤ length before.kept
    → Turned c (rule before.version before.song c (turn_of c before (get_or channels c blank_channel) control)) before
    after channel control_after
    → Made (λ version song state. one_turn (rule version song) c state) before after (state_of control channels before)
    (state_of control_after (set channels c channel) after)
turn_made rule c before after control control_after channels channel lt le t = record {
  version = ap (λ (s : Shown). s.version) t.lane.kept;
  song = ap (λ (s : Shown). s.song) t.lane.kept;
  state = turned (rule before.version before.song) c before after control control_after channels channel lt le t;
}

-- one call after another
pub made_then : (f g : ℕ → Module → SequentialState → SequentialState) (a b c : Shown) (x y z : SequentialState)
    → Made f a b x y → Made g b c y z → Made (λ version song state. g version song (f version song state)) a c x z
made_then f g a b c x y z p q = record {
  version = q.version ∙ p.version;
  song = q.song ∙ p.song;
  state = rw (sym p.state, sym p.version, sym p.song) q.state;
}

pub made_as : (f g : ℕ → Module → SequentialState → SequentialState) (a b : Shown) (x y : SequentialState)
    → f a.version a.song x ≡ g a.version a.song x → Made f a b x y → Made g a b x y
made_as f g a b x y e p = record { version = p.version; song = p.song; state = p.state ∙ e }

-- one channel more has taken its turn
pub next_turn : (rule : ℕ → Module → ℕ → Turn → Turn) (i : ℕ) (a b c : Shown) (x y z : SequentialState)
    → Made (λ version song state. in_turn (rule version song) i state) a b x y
    → Made (λ version song state. one_turn (rule version song) i state) b c y z
    → Made (λ version song state. in_turn (rule version song) (i + 1) state) a c x z
next_turn rule i a b c x y z p q =
    rw (add-one i) (made_then
    (λ (version : ℕ) (song : Module) (state : SequentialState). in_turn (rule version song) i state)
    (λ (version : ℕ) (song : Module) (state : SequentialState). one_turn (rule version song) i state) a b c x y z p q)

-- the same call, seen from a state before
pub made_from : (f g : ℕ → Module → SequentialState → SequentialState) (a b : Shown) (x before y : SequentialState)
    → f a.version a.song x ≡ g a.version a.song before → Made f a b x y → Made g a b before y
made_from f g a b x before y e p = record { version = p.version; song = p.song; state = p.state ∙ e }
