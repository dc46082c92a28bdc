use Rattle.std.proofs.Common.{◌<◌, ℕ, None, List, Option, length, map, set, is_some, get_or, ap, sym, subst, ◌∙◌}
use Rattle.std.proofs.lemmas.List.{length-map, length-set, map-set}
use Rattle.ft_shared.specs.Pass.{ReaderState}
use Rattle.ft_shared.specs.declared.law.Pin.{Pin}
use Rattle.ft_player.specs.declared.seat.Seat.{Seat}
use Rattle.ft_player.specs.Seats.{pin_in, seat_words, IsSeated}
use Rattle.ft_player.specs.Behind.{shown_by}
use Rattle.ft_player.proofs.Seated.{set_seated, none_seated, sets}
use Rattle.ft_player.proofs.view.PlayerViewSongView.stop.Goals as goal

pub invariant_of-self : goal.invariant_of-self
invariant_of-self g c =
    let old = c.args.self.now in
    let seats = old.seats.now.items in
    let channel = c.args.channel in
    let inside : channel < length seats = subst (λ (n : ℕ). c.args.channel < n) (length-map seats (is_some {T = Seat})) c.requires in
    let on = c.sit.ensures.on in record {
      here = ap (λ (x : ReaderState). x.register) on.is ∙ old.here;
      held = ap (λ (x : ReaderState). x.notes.held) on.is ∙ old.held;
      many = ap length c.sit.ensures.seats ∙ length-set seats channel None ∙ old.many;
      pins = c.sit.ensures.pins ∙ ap (λ (l : List (Option Pin)). set l channel None) old.pins
          ∙ sym (ap (map pin_in) c.sit.ensures.seats ∙ map-set pin_in seats channel None);
      seated = λ songs d stands.
          subst (λ (l : List (Option Seat)). IsSeated songs (get_or l d None)) (sym c.sit.ensures.seats)
          (set_seated songs seats channel d None inside (none_seated songs)
          (old.seated songs d (c.songs_agree_with_earlier_notes.ensures songs _ _ on stands)));
    }

pub returns-clause-shows : goal.returns-clause-shows
returns-clause-shows g c = λ w stands.
    let old = c.args.self.now in (
      c.songs_agree_with_earlier_notes.ensures w old.pass.now c.sit.new.pass c.sit.ensures.on stands,
      ap (shown_by w old.version) c.sit.ensures.seats ∙ sets w old.version old.seats.now.items c.args.channel None,
    )

pub returns-clause-holds : goal.returns-clause-holds
returns-clause-holds g c =
    ap (map (is_some {T = Seat})) c.sit.ensures.seats
    ∙ map-set (is_some {T = Seat}) c.args.self.now.seats.now.items c.args.channel None

pub returns-clause-words : goal.returns-clause-words
returns-clause-words g c =
    ap (map seat_words) c.sit.ensures.seats ∙ map-set seat_words c.args.self.now.seats.now.items c.args.channel None
