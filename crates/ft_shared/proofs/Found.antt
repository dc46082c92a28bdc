-- A whole scan finds each held segment, and what a reader does until the next publish adds none.
use Rattle.std.proofs.Common.{◌⊎◌, ◌≤◌, IsSomeAnd, IfSome, ⊎_elim, ◌∷◌, [], suc, zero, ◌≡◌, ◌≢◌, ℕ, ◌<◌, List, length, set, sym, refl, ap, ◌∙◌, subst, inl, inr, arith, Option, Some, None, slice_index_or, get_or-set_other}
use mathlib.Core.Option.{some}
use mathlib.Core.Logic.{dite}
use native.Mathlib.Decide.{ℕ_discrete}
use lib.ListN.{get_elem?}
use Rattle.ft_segments.specs.Walk.{Placed, IsOf, SameWords, sample_walk, sample_uses}
use Rattle.ft_segments.specs.Pins.{PinHolds}
use Rattle.ft_shared.specs.declared.law.Sizes.{Sizes}
use Rattle.ft_shared.specs.declared.law.Opening.{Opening}
use Rattle.ft_shared.specs.declared.law.PlacedVersion.{PlacedVersion}
use Rattle.ft_shared.specs.declared.law.Pin.{Pin}
use Rattle.ft_shared.specs.declared.law.Hold.{Hold}
use Rattle.ft_shared.specs.declared.law.Account.{Account}
use Rattle.ft_shared.specs.declared.law.View.{View}
use Rattle.ft_shared.specs.Counts.{IsBehind, pin_of}
use Rattle.ft_shared.specs.History.{IsOfVersion, placed_at, root_and_pool}
use Rattle.ft_shared.specs.Account.{IsWhole, IsPinAnswer, IsAnswered, Found}
use Rattle.ft_shared.specs.Segments.{IsAsPlaced}
use Rattle.ft_shared.specs.HeldSegments.{IsOfPin, IsHeldBy, IsHeld}
use Rattle.ft_shared.specs.Pass.{pin_from, note_take, note_pin}
use Rattle.ft_shared.specs.declared.law.Notes.{Notes}
use Rattle.ft_shared.specs.declared.law.TakenVersion.{TakenVersion}
use Rattle.ft_shared.specs.Register.{TableState, RegisterRule}
use Rattle.ft_shared.proofs.Pinned.{answers_held, number-small}

-- the law of the walk: where a pool has the words that a pin holds of a version, the root names them there
abbrev pub NamesHeld : Type 0
NamesHeld = (placed : Placed) (pool : List ℕ) (root segment : ℕ)
    → ((held : ℕ) → PinHolds placed root held → SameWords placed.pool pool held)
    → PinHolds placed root segment → 1 ≤ sample_uses segment (sample_walk pool root)

none_some : {A : Type 0} (x : A) → None ≡ Some x → ⊥
none_some x e = cc

pub has-place : (l : List (Option Pin)) (k : ℕ) (pin : Pin) → slice_index_or l k None ≡ Some pin → k < length l
has-place [] k pin e = absurd (none_some pin e)
has-place (x ∷ l) zero pin e = omega arith
has-place (x ∷ l) (suc k) pin e = let r = has-place l k pin e in omega arith

-- what a list has where it was set, was put there
put-there : (l : List (Option Pin)) (k : ℕ) (o : Option Pin) (pin : Pin) → slice_index_or (set l k o) k None ≡ Some pin → o ≡ Some pin
put-there [] k o pin e = absurd (none_some pin e)
put-there (x ∷ l) zero o pin e = e
put-there (x ∷ l) (suc k) o pin e = put-there l k o pin e

module _ (key : Opening) (names : NamesHeld) where
  -- what a pin holds is found
  finds_pinned : (state : TableState) (rule : RegisterRule key state) → IsWhole key.sizes rule.account
      → (seat : ℕ) (view : View) (hold : Hold) → get_elem? state.views seat ≡ some view → IsBehind view hold → (s channel : ℕ) (pin : Pin)
      → pin_of hold.notes channel ≡ Some pin
      → (placed : PlacedVersion) → placed_at rule.account.history pin.version ≡ Some placed → PinHolds (root_and_pool placed) pin.root s
      → Found rule.account s
  finds_pinned state rule whole seat view hold at behind s channel pin is placed there holds =
      let a : Account = rule.account in
      let kept = rule.segments.kept seat view hold at behind in
      let stands = kept.pins channel pin is in
      let channels : length hold.notes.pins ≡ key.sizes.channels = kept.wide ∙ ap (λ (z : Sizes). z.channels) rule.told in
      let small : hold.notes.number < key.sizes.readers = number-small key state rule seat view hold at behind in
      let less : channel < length hold.notes.pins = has-place hold.notes.pins channel pin is in
      let unwritten : (segment : ℕ) → PinHolds (root_and_pool placed) pin.root segment → IsAsPlaced a placed segment =
      subst (λ (o : Option PlacedVersion). IfSome o (λ q. (segment : ℕ) → PinHolds (root_and_pool q) pin.root segment
      → IsAsPlaced a q segment)) there stands.unwritten in
      ⊎_elim (λ (f : IsPinAnswer a hold.notes.number channel (Some pin.root)).
      inr (inr (
        hold.notes.number,
        channel,
        pin.root,
        f,
        names (root_and_pool placed) a.pool pin.root s (λ held h. (unwritten held h).0) holds,
      )))
      (λ (f : IsAnswered a pin.version). inr (inl (
        pin.version,
        f,
        subst (λ (o : Option PlacedVersion). IsSomeAnd o (λ q. IsOf (root_and_pool q) s)) (sym there) holds.1,
      )))
      (rule.segments.scanned seat view hold at behind channel pin is (whole.1 hold.notes.number channel small (omega arith)))

  -- what a pass holds is found
  pub finds_held_by : (state : TableState) (rule : RegisterRule key state) → IsWhole key.sizes rule.account
      → (seat : ℕ) (view : View) (hold : Hold) → get_elem? state.views seat ≡ some view → IsBehind view hold → (s : ℕ)
      → IsHeldBy rule.account.history hold.notes s → Found rule.account s
  finds_held_by state rule whole seat view hold at behind s (inl (t, has, of)) = inr
      (inl (t.version, answers_held key state rule whole.0.1 seat view hold at behind t has, of))
  finds_held_by state rule whole seat view hold at behind s (inr (channel, pin, is, of)) = go
      (placed_at rule.account.history pin.version) refl of
    where
      go : (o : Option PlacedVersion) → placed_at rule.account.history pin.version ≡ o
          → IsSomeAnd o (λ q. PinHolds (root_and_pool q) pin.root s) → Found rule.account s
      go None e holds = absurd holds
      go (Some placed) e holds = finds_pinned state rule whole seat view hold at behind s channel pin is placed e holds

  -- a whole scan finds each held segment
  pub finds_each_held : (state : TableState) (rule : RegisterRule key state) → IsWhole key.sizes rule.account → (s : ℕ)
      → IsHeld rule.account state.views s → Found rule.account s
  finds_each_held state rule whole s (inl of) = inl of
  finds_each_held state rule whole s (inr (
    seat,
    view,
    hold,
    at,
    behind,
    held,
  )) = finds_held_by state rule whole seat view hold at behind s held

-- ---- until the next publish

-- a take holds what is of the current version
pub take_adds : (a : Account) (n : Notes) (t : TakenVersion) (s : ℕ) → t.version ≡ a.version → IsHeldBy a.history (note_take n t) s
    → IsHeldBy a.history n s ⊎ Found a s
take_adds a n t s is (inl (u, has, of)) = let same : t ≡ u = cc in
    inr (inl (subst (λ (v : ℕ). IsOfVersion a.history v s) (sym (ap (λ (z : TakenVersion). z.version) same) ∙ is) of))
take_adds a n t s is (inr pinned) = inl (inr pinned)

-- a pin holds what is of a version that was held
pub pin_adds : (a : Account) (n : Notes) (channel root s : ℕ) → ((t : TakenVersion) → n.held ≡ Some t → IsAnswered a t.version)
    → IsHeldBy a.history (note_pin n channel root) s → IsHeldBy a.history n s ⊎ Found a s
pin_adds a n channel root s answered (inl held) = inl (inl held)
pin_adds a n channel root s answered (inr (c, pin, is, of)) = dite (ℕ_discrete c channel)
    (λ (e : c ≡ channel). inr (here n.held refl pin (put-there n.pins channel (pin_from n.held root) pin
    (subst (λ (k : ℕ). pin_of (note_pin n channel root) k ≡ Some pin) e is)) of))
    (λ (e : c ≢ channel). inl (inr (c, pin, sym (get_or-set_other n.pins channel c (pin_from n.held root) None e) ∙ is, of)))
  where
    some-of : (o : Option PlacedVersion) (root : ℕ) → IsSomeAnd o (λ q. PinHolds (root_and_pool q) root s)
        → IsSomeAnd o (λ q. IsOf (root_and_pool q) s)
    some-of None root h = absurd h
    some-of (Some q) root h = h.1

    here : (o : Option TakenVersion) → n.held ≡ o → (pin : Pin) → pin_from o root ≡ Some pin → IsOfPin a.history pin s → Found a s
    here None held pin e of = absurd (none_some pin e)
    here (Some t) held pin e of =
        let p : Pin = record { version = t.version; root = root } in
        let same : p ≡ pin = cc in
        let of' : IsOfPin a.history p s = subst (λ (z : Pin). IsOfPin a.history z s) (sym same) of in
        inr (inl (t.version, answered t held, some-of (placed_at a.history t.version) root of'))
