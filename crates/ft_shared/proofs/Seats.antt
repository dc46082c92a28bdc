-- What a pass is after a step, from its seat.
use Rattle.std.proofs.Common.{◌≡◌, ℕ, suc, ◌+◌, ◌<◌, ◌≤◌, List, [], ◌∷◌, length, set, slice_index_or, sym, ap, ◌∙◌, subst, arith, length-set, get_or-set_same, get_or-set_other}
use Rattle.ft_shared.specs.declared.law.Sizes.{Sizes}
use Rattle.ft_shared.specs.declared.law.Hold.{Hold}
use Rattle.ft_shared.specs.declared.law.Account.{Account}
use Rattle.ft_shared.specs.declared.law.View.TheVariants.{Reader, Writer}
use Rattle.ft_shared.specs.declared.reader.KeptPass.{KeptPass}
use Rattle.ft_shared.specs.declared.reader.ReaderPass.TheInside.{Inside as ReaderInside}
use Rattle.ft_shared.specs.declared.writer.WriterPass.TheInside.{Inside as WriterInside}
use Rattle.ft_shared.specs.Counts.{sum_below}
use Rattle.ft_shared.specs.Account.{hold_of, account_of, SlotsAreMet}
use Rattle.ft_shared.specs.Register.{SeatView, marks}
use Rattle.ft_shared.specs.Pass.{IsKeptPass, no_pass, ArePassesKept}
use Rattle.ft_shared.specs.Inner.{hold_in, account_in, IsReaderPass, IsWriterPass}

pub reader_seated : (m : SeatView) (h : Hold) → m ≡ (Reader h, []) → m ≡ (Reader (hold_of m.0), [])
reader_seated m h e = e ∙ ap (λ (z : Hold). (Reader z, [])) (sym (ap (λ (n : SeatView). hold_of n.0) e))

pub writer_seated : (m : SeatView) (a : Account) → m ≡ (Writer a, []) → m ≡ (Writer (account_of m.0), [])
writer_seated m a e = e ∙ ap (λ (z : Account). (Writer z, [])) (sym (ap (λ (n : SeatView). account_of n.0) e))

-- a reader's pass whose seat notes more and holds what it held
pub reader_still : (pass new : ReaderInside) (h : Hold) → IsReaderPass pass → new.place.me ≡ (Reader h, [])
    → h.slot ≡ (hold_in pass).slot → h.notes.sizes ≡ (hold_in pass).notes.sizes
    → h.notes.number ≡ (hold_in pass).notes.number → IsReaderPass (record pass { place = new.place })
reader_still pass new h is now slot sizes number =
    let e : hold_of new.place.me.0 ≡ h = ap (λ (m : SeatView). hold_of m.0) now in
    record {
      seat = reader_seated new.place.me h now;
      slot = ap (λ (z : Hold). z.slot) e ∙ (slot ∙ is.slot);
      inside = subst (λ (z : Sizes). pass.slot < z.readers + 2) (sym (ap (λ (z : Hold). z.notes.sizes) e ∙ sizes)) is.inside;
      number = (
        ap (λ (z : Hold). z.notes.number) e ∙ (number ∙ is.number.0),
        subst (λ (z : Sizes). pass.number < z.readers) (sym (ap (λ (z : Hold). z.notes.sizes) e ∙ sizes)) is.number.1,
      );
    }

-- the writer's pass whose account changes in nothing that it keeps beside its seat
pub writer_still : (pass new : WriterInside) (b : Account) → IsWriterPass pass → new.place.me ≡ (Writer b, [])
    → b ≡ record (account_in pass) { pin_scan = b.pin_scan; pinned = b.pinned; pool = b.pool; filled = b.filled; steps = b.steps }
    → IsWriterPass (record pass { place = new.place })
writer_still pass new b is now same =
    let a : Account = record (account_in pass) {
      pin_scan = b.pin_scan;
      pinned = b.pinned;
      pool = b.pool;
      filled = b.filled;
      steps = b.steps;
    } in
    let e : account_of new.place.me.0 ≡ a = ap (λ (m : SeatView). account_of m.0) now ∙ same in
    record {
      seat = writer_seated new.place.me b now;
      readers = (ap (λ (z : Account). z.sizes.readers) e ∙ is.readers.0, is.readers.1);
      version = ap (λ (z : Account). z.version) e ∙ is.version;
      slot = ap (λ (z : Account). z.slot) e ∙ is.slot;
      inside = is.inside;
      slots = ap (λ (z : Account). z.slots) e ∙ is.slots;
      deep = is.deep;
      many = (ap (λ (z : Account). length z.settled) e ∙ is.many.0, is.many.1);
      room = is.room;
      settled = subst (λ (z : Account). ArePassesKept z.sizes pass.settled z.settled) (sym e) is.settled;
      whole = subst (λ (z : Account). SlotsAreMet z.sizes z → sum_below (marks z) (pass.readers + 2) ≤ pass.readers) (sym e) is.whole;
    }

-- what is kept of passes lies below their number
kept_below : (sizes : Sizes) (kept new : List KeptPass) (hs : List Hold)
    → ((k : ℕ) → k < length hs → slice_index_or new k no_pass ≡ slice_index_or kept k no_pass)
    → ArePassesKept sizes kept hs → ArePassesKept sizes new hs
kept_below sizes kept new [] same are = tt
kept_below sizes kept new (h ∷ hs) same are = (
  subst (IsKeptPass sizes h) (sym (same (length hs) (omega arith))) are.0,
  kept_below sizes kept new hs (λ k l. same k (omega arith)) are.1,
)

-- the writer's pass when one more pass is settled, which it keeps
pub writer_settled : (pass new : WriterInside) (h : Hold) (kept : KeptPass) (b : Account) → IsWriterPass pass
    → new.place.me ≡ (Writer b, [])
    → b ≡ record (account_in pass) { settled = h ∷ (account_in pass).settled; steps = b.steps } → length b.settled ≤ 8
    → IsKeptPass (account_in pass).sizes h kept
    → IsWriterPass (record pass { place = new.place; settled = set pass.settled pass.many kept; many = pass.many + 1 })
writer_settled pass new h kept b is now same few keeps =
    let old : Account = account_in pass in
    let a : Account = record old { settled = h ∷ old.settled; steps = b.steps } in
    let e : account_of new.place.me.0 ≡ a = ap (λ (m : SeatView). account_of m.0) now ∙ same in
    let more : length b.settled ≡ suc (length old.settled) = ap (λ (z : Account). length z.settled) same in
    let many = is.many.0 in
    let room = is.room in
    let here : slice_index_or (set pass.settled pass.many kept) (length old.settled) no_pass ≡ kept =
    ap (λ (k : ℕ). slice_index_or (set pass.settled pass.many kept) k no_pass) many
    ∙ get_or-set_same pass.settled pass.many kept no_pass (omega arith) in
    record {
      seat = writer_seated new.place.me b now;
      readers = (ap (λ (z : Account). z.sizes.readers) e ∙ is.readers.0, is.readers.1);
      version = ap (λ (z : Account). z.version) e ∙ is.version;
      slot = ap (λ (z : Account). z.slot) e ∙ is.slot;
      inside = is.inside;
      slots = ap (λ (z : Account). z.slots) e ∙ is.slots;
      deep = is.deep;
      many = (ap (λ (z : Account). length z.settled) e ∙ omega arith, omega arith);
      room = length-set pass.settled pass.many kept ∙ is.room;
      settled = subst (λ (z : Account). ArePassesKept z.sizes (set pass.settled pass.many kept) z.settled) (sym e) (
        subst (IsKeptPass old.sizes h) (sym here) keeps,
        kept_below old.sizes pass.settled (set pass.settled pass.many kept) old.settled
            (λ k l. get_or-set_other pass.settled pass.many k kept no_pass (λ t. omega arith)) is.settled,
      );
      whole = subst (λ (z : Account). SlotsAreMet z.sizes z → sum_below (marks z) (pass.readers + 2) ≤ pass.readers) (sym e) is.whole;
    }
