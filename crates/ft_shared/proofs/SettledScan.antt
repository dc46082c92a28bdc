-- While all passes are settled, a scan finds just what they hold and what is current.
use Rattle.std.proofs.Common.{◌≡◌, ◌↔◌, inl, inr, ℕ, ◌+◌, ◌-◌, ◌<◌, ◌≤◌, cond, Bool, List, length, sym, refl, ap, ◌∙◌, subst, ⊎_elim, arith, Option, Some, None, IsSome, IsSomeAnd, IfSome, slice_index_or, All, ne_eqb}
use Rattle.std.specs.List.{Contains}
use Rattle.std.proofs.lemmas.List.{get_or_default}
use Rattle.std.proofs.lemmas.List.Elements.{Contains-get_or}
use Rattle.ft_segments.specs.Walk.{sample_walk, sample_uses}
use Rattle.ft_segments.specs.Pins.{PinHolds}
use Rattle.ft_shared.specs.declared.law.PlacedVersion.{PlacedVersion}
use Rattle.ft_shared.specs.declared.law.Pin.{Pin}
use Rattle.ft_shared.specs.declared.law.Hold.{Hold}
use Rattle.ft_shared.specs.declared.law.Account.{Account}
use Rattle.ft_shared.specs.Counts.{pin_of, pin_word}
use Rattle.ft_shared.specs.History.{placed_at, root_and_pool, IsOfVersion}
use Rattle.ft_shared.specs.Account.{slot_at, pinned_root, pin_answer, IsWhole, IsHeldSlot, IsBorne, Found}
use Rattle.ft_shared.specs.Segments.{IsAsPlaced, IsHoldUnwritten, KeepsHeld}
use Rattle.ft_shared.specs.Free.{IsHeldSettled, IsExactScan, DoPinsHoldAll}
use Rattle.ft_shared.proofs.Found.{NamesHeld, has-place}

-- what is so of all is so of each
each_of : {A : Type 0} (P : A → Type 0) (l : List A) (x : A) → All P l → Contains l x → P x
each_of P l x all there = subst P there.2 (all there.0 x there.1)

some-is : (o : Option ℕ) (v : ℕ) → IsSome o → IfSome o (λ version. version ≡ v) → o ≡ Some v
some-is None v is same = cc
some-is (Some w) v is same = ap Some same

root-of-word : (n : ℕ) → pinned_root (n + 1) ≡ Some n
root-of-word n =
    let e : n + 1 - 1 ≡ n = omega arith in
    ap (λ (b : Bool). cond b None (Some (n + 1 - 1))) (ne_eqb (n + 1) 0 (omega arith)) ∙ ap Some e

-- what the word of a pin names, the pin does
pin-named : (o : Option Pin) (root : ℕ) → Some root ≡ pinned_root (pin_word o) → (pin : Pin) × (o ≡ Some pin) × (pin.root ≡ root)
pin-named None root e = absurd cc
pin-named (Some pin) root e = let same : Some root ≡ Some pin.root = e ∙ root-of-word pin.root in (pin, refl, cc)

holds-of : (o : Option PlacedVersion) (placed : PlacedVersion) (root s : ℕ) → o ≡ Some placed → PinHolds (root_and_pool placed) root s
    → IsSomeAnd o (λ q. PinHolds (root_and_pool q) root s)
holds-of o placed root s e holds = subst (λ (z : Option PlacedVersion). IsSomeAnd z (λ q. PinHolds (root_and_pool q) root s)) (sym e) holds

module _ (names : NamesHeld) (a : Account) (exact : IsExactScan a) (whole : IsWhole a.sizes a) (keeps : KeepsHeld a)
    (borne : All (IsBorne a) a.settled) where
  -- what a settled pass holds is found
  held_found : ((hold : Hold) → Contains a.settled hold → hold.notes.number < a.sizes.readers) → (s : ℕ) → IsHeldSettled a s → Found a s
  held_found numbers s (inl now) = inl now
  held_found numbers s (inr (hold, there, inl (taken, held, of))) =
      let b = each_of (IsBorne a) a.settled hold borne there taken held in
      let inside = b.0 in
      let wide = whole.0.1 in
      let some : IsSome (slice_index_or a.scan hold.slot None) = (exact.slots hold.slot inside).1 (inr (hold, taken, there, held, refl)) in
      let is : slice_index_or a.scan hold.slot None ≡ Some taken.version =
      some-is (slice_index_or a.scan hold.slot None) (slot_at a hold.slot).version some (exact.versions hold.slot) ∙ ap Some b.1 in
      inr (inl (taken.version, subst (Contains a.scan) is (Contains-get_or a.scan hold.slot None (omega arith)), of))
  held_found numbers s (inr (hold, there, inr (channel, pin, is, of))) =
      let kept = each_of (IsHoldUnwritten a) a.settled hold keeps.settled there in
      let less : channel < length hold.notes.pins = has-place hold.notes.pins channel pin is in
      let wide = kept.wide in
      let met = whole.1 hold.notes.number channel (numbers hold there) (omega arith) in
      let root : met.0 ≡ Some pin.root = exact.pins (pin_answer hold.notes.number channel met.0) met.1 hold (there, refl)
      ∙ (ap (λ (o : Option Pin). pinned_root (pin_word o)) is ∙ root-of-word pin.root) in
      inr (inr (
        hold.notes.number,
        channel,
        pin.root,
        subst (λ (o : Option ℕ). Contains a.pin_scan (pin_answer hold.notes.number channel o)) root met.1,
        go (placed_at a.history pin.version) of (kept.pins channel pin is).unwritten,
      ))
    where
      go : (o : Option PlacedVersion) → IsSomeAnd o (λ q. PinHolds (root_and_pool q) pin.root s)
          → IfSome o (λ q. (segment : ℕ) → PinHolds (root_and_pool q) pin.root segment → IsAsPlaced a q segment)
          → 1 ≤ sample_uses s (sample_walk a.pool pin.root)
      go None holds unwritten = absurd holds
      go (Some placed) holds unwritten = names (root_and_pool placed) a.pool pin.root s (λ held h. (unwritten held h).0) holds

  -- what is found is current or held
  found_held : (slot_at a a.slot).version ≡ a.version → DoPinsHoldAll a → (s : ℕ) → Found a s → IsHeldSettled a s
  found_held bears all s (inl now) = inl now
  found_held bears all s (inr (inl (v, there, of))) =
      let k : ℕ = there.0 in
      let l = there.1 in
      let wide = whole.0.1 in
      let is : slice_index_or a.scan k None ≡ Some v = get_or_default a.scan k None (Some v) there.1 ∙ there.2 in
      let some : IsSome (slice_index_or a.scan k None) = subst (λ (o : Option ℕ). IsSome o) (sym is) refl in
      let same : v ≡ (slot_at a k).version = subst (λ (o : Option ℕ). IfSome o (λ version. version ≡ (slot_at a k).version)) is
      (exact.versions k) in
      ⊎_elim
      (λ (e : k ≡ a.slot). inl (subst (λ (n : ℕ). IsOfVersion a.history n s)
      (same ∙ (ap (λ (n : ℕ). (slot_at a n).version) e ∙ bears)) of))
      (λ (h : IsHeldSlot a k).
      let b = each_of (IsBorne a) a.settled h.0 borne h.2 h.1 h.3 in
      inr (
        h.0,
        h.2,
        inl (
          h.1,
          h.3,
          subst (λ (n : ℕ). IsOfVersion a.history n s)
              (same ∙ (ap (λ (n : ℕ). (slot_at a n).version) (sym h.4) ∙ b.1)) of,
        ),
      ))
      ((exact.slots k (omega arith)).0 some)
  found_held bears all s (inr (inr (reader, channel, root, there, names'))) =
      let it = exact.settled (pin_answer reader channel (Some root)) there in
      let pin = pin-named (pin_of (it.0).notes channel) root (exact.pins (pin_answer reader channel (Some root)) there it.0 it.1) in
      let holds = all it.0 channel pin.0 it.1.0 pin.1 s
      (subst (λ (n : ℕ). 1 ≤ sample_uses s (sample_walk a.pool n)) (sym pin.2) names') in
      inr (
        it.0,
        it.1.0,
        inr (
          channel,
          pin.0,
          pin.1,
          holds-of (placed_at a.history (pin.0).version) holds.0 (pin.0).root s holds.1 holds.2,
        ),
      )

  pub settled_finds : ((hold : Hold) → Contains a.settled hold → hold.notes.number < a.sizes.readers)
      → (slot_at a a.slot).version ≡ a.version → DoPinsHoldAll a → (s : ℕ) → Found a s ↔ IsHeldSettled a s
  settled_finds numbers bears all s = (found_held bears all s, held_found numbers s)
