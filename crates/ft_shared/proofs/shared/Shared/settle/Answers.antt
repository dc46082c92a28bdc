use Rattle.std.proofs.Common.{rules, refl, ap, sym, ◌∙◌, ◌≡◌, ◌≤◌, ◌∷◌, [], length, subst, All}
use Rattle.std.proofs.lemmas.List.Elements.{All-head}
use Rattle.ft_shared.specs.declared.law.Sizes.{Sizes}
use Rattle.ft_shared.specs.declared.law.Hold.{Hold}
use Rattle.ft_shared.specs.declared.law.Account.{Account}
use Rattle.ft_shared.specs.declared.law.View.TheVariants.{Writer}
use Rattle.ft_shared.specs.Account.{account_of, after_join, after_learning}
use Rattle.ft_shared.specs.History.{Agrees}
use Rattle.ft_shared.specs.Segments.{KeepsHeld}
use Rattle.ft_shared.specs.Pass.{hold_at, IsKeptPass}
use Rattle.ft_shared.specs.Plays.{joined}
use Rattle.ft_shared.specs.Register.{SeatView}
use Rattle.ft_shared.proofs.Joins.{settles, learns}
use Rattle.ft_shared.proofs.Segments.{keeps_learned}
use Rattle.ft_shared.proofs.Seats.{writer_seated, writer_settled}
use Rattle.ft_shared.proofs.shared.Shared.settle.Goals as goal

pub join_seat-requires : goal.join_seat-requires
join_seat-requires c = (
  search rules,
  search rules,
  search rules,
  search rules,
  settles c.self.inside.words.table.shared.key _ _ _ _ _
      (ap (λ m. m.0) c.writer.invariant.seat) (ap (λ m. m.0) c.parts-place.ensures.seat),
)

pub scan_load-word-requires : goal.scan_load-word-requires
scan_load-word-requires c =
    let was = c.writer.invariant.seat in
    let there = c.parts-place.ensures.seat in
    let a = account_of c.writer.inside.place.me.0 in
    let now : c.join_seat.new.place.me ≡ (Writer (after_join a (hold_at c.args.reader)), []) =
    c.join_seat.ensures.2 ∙ (λ i. (joined (was i).0 (there i).0, (was i).1)) in (
      search rules,
      search rules,
      learns c.self.inside.words.table.shared.key _ _ _ (ap (λ m. m.0) (writer_seated _ _ now)),
    )

pub invariant_of-writer : goal.invariant_of-writer
invariant_of-writer c =
    let w = c.writer.inside in
    let was = c.writer.invariant.seat in
    let there = c.parts-place.ensures.seat in
    let a = account_of w.place.me.0 in
    let h : Hold = hold_at c.args.reader in
    let now : c.join_seat.new.place.me ≡ (Writer (after_join a h), []) =
    c.join_seat.ensures.2 ∙ (λ i. (joined (was i).0 (there i).0, (was i).1)) in
    let b : Account = after_learning (after_join a h) in
    let then : c.scan_load-word.new.place.me ≡ (Writer b, []) = c.scan_load-word.ensures.2.0
    ∙ (λ i. (Writer (after_learning (account_of (now i).0)), (now i).1)) in
    let few : length b.settled ≤ 8 = subst (λ (m : SeatView). length (account_of m.0).settled ≤ 8) now c.scan_load-word.ensures.2.3 in
    let sizes : c.args.reader.register.sizes ≡ a.sizes = ap (λ o. o.sizes) c.requires.reader
    ∙ (sym (ap (λ o. o.sizes) c.requires.writer) ∙ sym (ap (λ b. b.register.sizes) c.writer.view_is)) in
    writer_settled w (record {
      place = c.scan_load-word.new.place;
      readers = w.readers;
      version = w.version;
      slot = w.slot;
      slots = w.slots;
      settled = w.settled;
      many = w.many;
    }) h c.parts-place.result.1 b c.writer.invariant then refl few
    (subst (λ (z : Sizes). IsKeptPass z h c.parts-place.result.1) sizes c.parts-place.ensures.kept)

pub returns-clause-all : goal.returns-clause-all
returns-clause-all c = subst (λ (m : SeatView). All (λ (h : Hold). Agrees (account_of m.0).history h.notes) (account_of m.0).settled)
    (sym c.scan_load-word.ensures.2.0) c.scan_load-word.ensures.2.2

pub returns-clause-agrees : goal.returns-clause-agrees
returns-clause-agrees c =
    let was = c.writer.invariant.seat in
    let there = c.parts-place.ensures.seat in
    let a = account_of c.writer.inside.place.me.0 in
    let h : Hold = hold_at c.args.reader in
    let now : c.join_seat.new.place.me ≡ (Writer (after_join a h), []) =
    c.join_seat.ensures.2 ∙ (λ i. (joined (was i).0 (there i).0, (was i).1)) in
    let all : All (λ (k : Hold). Agrees a.history k.notes) (h ∷ a.settled) =
    subst (λ (m : SeatView). All (λ (k : Hold). Agrees (account_of m.0).history k.notes) (account_of m.0).settled) now
    c.scan_load-word.ensures.2.2 in
    let here : Agrees a.history h.notes = All-head (λ (k : Hold). Agrees a.history k.notes) h a.settled all in
    subst (λ (m : SeatView). Agrees (account_of m.0).history h.notes)
    (sym (c.scan_load-word.ensures.2.0 ∙ (λ i. (Writer (after_learning (account_of (now i).0)), (now i).1)))) here

pub returns-clause-kept : goal.returns-clause-kept
returns-clause-kept c = subst (λ (m : SeatView). KeepsHeld (account_of m.0)) (sym c.scan_load-word.ensures.2.0)
    (keeps_learned c.args.self.now.sizes (account_of c.join_seat.new.place.me.0) c.scan_load-word.ensures.2.6)
