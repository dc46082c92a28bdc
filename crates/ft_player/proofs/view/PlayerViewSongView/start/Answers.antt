use Rattle.std.proofs.Common.{◌≡◌, ◌<◌, ℕ, None, Some, List, Option, IfSome, length, map, set, is_some, get_or, ap, sym, subst, ◌∙◌}
use Rattle.std.proofs.lemmas.List.{length-map, length-set, map-set}
use Rattle.ft_types.specs.declared.voice.SampleHead.{SampleHead}
use Rattle.ft_types.specs.Valid.{IsValidHead}
use Rattle.ft_types.specs.Views.{Owned, head_of_owned, keeping}
use Rattle.ft_shared.specs.Pass.{ReaderState}
use Rattle.ft_shared.specs.declared.law.Pin.{Pin}
use Rattle.ft_player.specs.declared.seat.Seat.{Seat}
use Rattle.ft_player.specs.Seats.{head_in, pin_in, seat_words, IsSeated}
use Rattle.ft_player.specs.Behind.{shown_by}
use Rattle.ft_player.specs.BehindLaws.{played_read}
use Rattle.ft_player.proofs.Seated.{set_seated, sets, keeps_else, head_owned, has_head, head_valid, no_words, began}
use Rattle.ft_player.proofs.view.PlayerViewSongView.start.Goals as goal

pub invariant_of-self : goal.invariant_of-self
invariant_of-self g c =
    let old = c.args.self.now in
    let seats = old.seats.now.items in
    let channel = c.args.channel in
    let inside : channel < length seats
    = subst (λ (n : ℕ). c.args.channel < n) (length-map seats (is_some {T = Seat})) c.requires.channel in
    let seat = c.begun_seat-seat.result in
    let mid = c.begun_seat-seat.new.pass in
    let read = c.begun_seat-seat.ensures.on.is in
    let on = c.sit.ensures.on in record {
      here = ap (λ (x : ReaderState). x.register) on.is ∙ ap (λ (x : ReaderState). x.register) read ∙ old.here;
      held = ap (λ (x : ReaderState). x.notes.held) on.is ∙ ap (λ (x : ReaderState). x.notes.held) read ∙ old.held;
      many = ap length c.sit.ensures.seats ∙ length-set seats channel seat ∙ old.many;
      pins = c.sit.ensures.pins
          ∙ ap (λ (l : List (Option Pin)). set l channel (pin_in seat)) (ap (λ (x : ReaderState). x.notes.pins) read ∙ old.pins)
          ∙ sym (ap (map pin_in) c.sit.ensures.seats ∙ map-set pin_in seats channel seat);
      seated = λ songs d stands.
          let here = c.songs_agree_with_earlier_notes.ensures songs mid c.sit.new.pass on stands in
          subst (λ (l : List (Option Seat)). IsSeated songs (get_or l d None)) (sym c.sit.ensures.seats)
          (set_seated songs seats channel d seat inside (λ s e. c.begun_seat-seat.ensures.seated songs s here e)
          (old.seated songs d (c.songs_agree_with_earlier_notes.ensures songs old.pass.now mid
          (played_read old.pass.now mid c.begun_seat-seat.ensures.on) here)));
    }

pub returns-clause-shows : goal.returns-clause-shows
returns-clause-shows g c = λ w stands.
    let old = c.args.self.now in
    let mid = c.begun_seat-seat.new.pass in
    let here = c.songs_agree_with_earlier_notes.ensures w mid c.sit.new.pass c.sit.ensures.on stands in (
      c.songs_agree_with_earlier_notes.ensures w old.pass.now mid (played_read old.pass.now mid c.begun_seat-seat.ensures.on) here,
      ap (shown_by w old.version) c.sit.ensures.seats
          ∙ sets w old.version old.seats.now.items c.args.channel c.begun_seat-seat.result
          ∙ ap (λ (o : Option Owned). keeping c.args.channel o (shown_by w old.version old.seats.now.items))
          (c.begun_seat-seat.ensures.begins w here),
    )

pub returns-clause-value : goal.returns-clause-value
returns-clause-value g c = λ w stands.
    let here = c.songs_agree_with_earlier_notes.ensures w c.begun_seat-seat.new.pass c.sit.new.pass c.sit.ensures.on stands in
    c.head_of.ensures
    ∙ head_owned w c.begun_seat-seat.result (λ s e. c.begun_seat-seat.ensures.seated w s here e)
    ∙ ap head_of_owned (c.begun_seat-seat.ensures.begins w here)

pub returns-clause-range : goal.returns-clause-range
returns-clause-range g c =
    subst (λ (o : Option SampleHead). IfSome o IsValidHead) (sym c.head_of.ensures)
    (head_valid c.begun_seat-seat.result _ _ c.begun_seat-seat.ensures.new)

pub returns-clause-holds : goal.returns-clause-holds
returns-clause-holds g c =
    let seats = c.args.self.now.seats.now.items in
    ap (map (is_some {T = Seat})) c.sit.ensures.seats
    ∙ map-set (is_some {T = Seat}) seats c.args.channel c.begun_seat-seat.result
    ∙ ap (set (map (is_some {T = Seat}) seats) c.args.channel)
    (sym (ap is_some c.head_of.ensures ∙ has_head c.begun_seat-seat.result))

pub returns-clause-keeps : goal.returns-clause-keeps
returns-clause-keeps g c = λ d h ne e.
    ap (λ (l : List (Option Seat)). head_in (get_or l d None)) c.sit.ensures.seats
    ∙ keeps_else c.args.self.now.seats.now.items c.args.channel d c.begun_seat-seat.result h ne e

pub returns-clause-began : goal.returns-clause-began
returns-clause-began g c =
    let seats = c.args.self.now.seats.now.items in
    let inside : c.args.channel < length seats
    = subst (λ (n : ℕ). c.args.channel < n) (length-map seats (is_some {T = Seat})) c.requires.channel in
    subst (λ (o : Option SampleHead). IfSome o (λ h. head_in (get_or c.sit.new.seats.items c.args.channel None) ≡ Some h))
    (sym c.head_of.ensures)
    (subst (λ (l : List (Option Seat)). IfSome (head_in c.begun_seat-seat.result)
    (λ h. head_in (get_or l c.args.channel None) ≡ Some h)) (sym c.sit.ensures.seats)
    (began c.begun_seat-seat.result seats c.args.channel inside))

pub returns-clause-words : goal.returns-clause-words
returns-clause-words g c =
    let seats = c.args.self.now.seats.now.items in
    ap (map seat_words) c.sit.ensures.seats
    ∙ map-set seat_words seats c.args.channel c.begun_seat-seat.result
    ∙ ap (set (map seat_words seats) c.args.channel) (no_words c.begun_seat-seat.result _ _ c.begun_seat-seat.ensures.new)
