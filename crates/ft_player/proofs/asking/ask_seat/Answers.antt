use Rattle.std.proofs.Common.{◌<◌, ℤ, pos, Option, length, get_or, ◌/◌, ap, sym, subst, ◌∙◌, rules, w16}
use Rattle.std.proofs.lemmas.Int.{to_z-of_z}
use Rattle.std.specs.Prelude.{FitsSigned}
use Rattle.ft_types.specs.declared.voice.SampleHead.{SampleHead}
use Rattle.ft_types.specs.Valid.{width_of}
use Rattle.ft_types.specs.Views.{Owned, frame_of}
use Rattle.ft_image.specs.Values.{frames_word}
use Rattle.ft_player.specs.declared.seat.Seat.{Seat}
use Rattle.ft_player.specs.Songs.{song_at, place_at}
use Rattle.ft_player.specs.Seats.{owned_frames}
use Rattle.ft_player.proofs.Ranged.{frame_ranged}
use Rattle.ft_player.proofs.Seated.{seat_sample}
use Rattle.ft_player.proofs.asking.ask_seat.Goals as goal

pub returns-clause-value : goal.returns-clause-value
returns-clause-value g c = λ songs stands seated.
    let seat = c.args.seat.now in
    let place = c.args.place in
    let s = seat_sample songs c.word_for-word.new.pass seat stands seated in
    let x = s.owned.sample in
    let valid = c.a_shown_sample_is_of_its_version.ensures.valid (place_at songs seat.version) (song_at songs seat.version) seat.root
    x s.shows s.of in
    let value = c.word_for-word.ensures.word songs stands seated
    ∙ ap (λ (o : Option Owned). frames_word (owned_frames o) (place / 4)) s.is in
    let frame = c.frame_in.ensures x valid value in
    let inside : place < length x.frames
    = subst (λ (h : SampleHead). place < h.frames) (sym s.headed) c.requires.inside in
    let headed = s.headed ∙ sym (ap (λ (s : Seat). s.head) c.word_for-word.ensures.asked.rest) in
    let fits = subst (λ (h : SampleHead). FitsSigned (width_of h.wide) (get_or x.frames place (pos 0))) headed
    (frame_ranged x place valid inside) in
    let low : FitsSigned w16 c.frame_in.result = search rules in
    let back = to_z-of_z w16 c.frame_in.result low ∙ frame in
    let ranged = subst (λ (z : ℤ). FitsSigned (width_of c.word_for-word.new.seat.head.wide) z) (sym back) fits in
    let narrow : FitsSigned w16 c.ranged_frame.result = search rules in
    to_z-of_z w16 c.ranged_frame.result narrow ∙ c.ranged_frame.ensures.same ranged ∙ back
    ∙ sym (ap (λ (o : Option Owned). frame_of o place) s.is)
