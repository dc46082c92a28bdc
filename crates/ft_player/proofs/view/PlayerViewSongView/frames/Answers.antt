use Rattle.std.proofs.Common.{◌<◌, ◌+◌, ℕ, None, List, Option, length, map, set, is_some, get_or, ap, sym, subst, ◌∙◌}
use Rattle.std.proofs.lemmas.List.{length-map, length-set, map-set, get_or-set_same}
use Rattle.ft_types.specs.declared.voice.SampleHead.{SampleHead}
use Rattle.ft_types.specs.Views.{Owned, frame_of}
use Rattle.ft_types.specs.Work.{asked_all, word_of, last_word}
use Rattle.ft_shared.specs.Pass.{ReaderState}
use Rattle.ft_player.specs.declared.seat.Seat.{Seat}
use Rattle.ft_player.specs.Songs.{song_at}
use Rattle.ft_player.specs.Seats.{head_in, pin_in, seat_words, owned_by, reworded}
use Rattle.ft_player.specs.BehindLaws.{played_read, owned_at, words_at}
use Rattle.ft_player.proofs.Seated.{same_at, asked_seated, head_at, reworded_head, reworded_pin, reworded_owned, reworded_some}
use Rattle.ft_player.proofs.view.PlayerViewSongView.frames.Goals as goal

pub invariant_of-self : goal.invariant_of-self
invariant_of-self g c =
    let old = c.args.self.now in
    let seats = old.seats.now.items in
    let channel = c.args.channel in
    let inside : channel < length seats
    = subst (λ (n : ℕ). c.args.channel < n) (length-map seats (is_some {T = Seat})) c.requires.channel in
    let is = c.run_of.ensures.run.on.is in
    let on = played_read old.pass.now c.run_of.new.pass c.run_of.ensures.run.on in
    let words = c.run_of.ensures.rest.0 in record {
      here = ap (λ (x : ReaderState). x.register) is ∙ old.here;
      held = ap (λ (x : ReaderState). x.notes.held) is ∙ old.held;
      many = ap length c.run_of.ensures.rest.1 ∙ length-set seats channel (reworded words (get_or seats channel None)) ∙ old.many;
      pins = ap (λ (x : ReaderState). x.notes.pins) is ∙ old.pins
          ∙ sym (same_at pin_in words seats c.run_of.new.seats.items channel c.run_of.ensures.rest.1 (reworded_pin words));
      seated = λ songs d stands.
          asked_seated songs seats c.run_of.new.seats.items channel d (reworded words (get_or seats channel None)) inside c.run_of.ensures.rest.1
          (c.run_of.ensures.seated songs stands
          (old.seated songs channel (c.songs_agree_with_earlier_notes.ensures songs old.pass.now c.run_of.new.pass on stands)))
          (old.seated songs d (c.songs_agree_with_earlier_notes.ensures songs old.pass.now c.run_of.new.pass on stands));
    }

pub returns-clause-shows : goal.returns-clause-shows
returns-clause-shows g c = λ w stands.
    let old = c.args.self.now in
    let on = played_read old.pass.now c.run_of.new.pass c.run_of.ensures.run.on in (
      c.songs_agree_with_earlier_notes.ensures w old.pass.now c.run_of.new.pass on stands,
      ap (λ (l : List (Option Owned)). record { version = old.version; song = song_at w old.version; kept = l })
          (same_at (owned_by w) c.run_of.ensures.rest.0 old.seats.now.items c.run_of.new.seats.items c.args.channel c.run_of.ensures.rest.1
          (reworded_owned w c.run_of.ensures.rest.0)),
    )

pub returns-clause-values : goal.returns-clause-values
returns-clause-values g c = λ w stands k lt.
    let old = c.args.self.now in
    let on = played_read old.pass.now c.run_of.new.pass c.run_of.ensures.run.on in
    let before = c.songs_agree_with_earlier_notes.ensures w old.pass.now c.run_of.new.pass on stands in
    c.run_of.ensures.values w stands (old.seated w c.args.channel before) k lt
    ∙ ap (λ (o : Option Owned). frame_of o (c.args.first + k)) (sym (owned_at w old.seats.now.items c.args.channel))

pub returns-clause-holds : goal.returns-clause-holds
returns-clause-holds g c =
    same_at (is_some {T = Seat}) c.run_of.ensures.rest.0 c.args.self.now.seats.now.items c.run_of.new.seats.items c.args.channel
    c.run_of.ensures.rest.1 (reworded_some c.run_of.ensures.rest.0)

pub returns-clause-keeps : goal.returns-clause-keeps
returns-clause-keeps g c = λ d h e.
    let seats = c.args.self.now.seats.now.items in
    sym (head_at c.run_of.new.seats.items d)
    ∙ ap (λ (l : List (Option SampleHead)). get_or l d None)
    (same_at head_in c.run_of.ensures.rest.0 seats c.run_of.new.seats.items c.args.channel c.run_of.ensures.rest.1
    (reworded_head c.run_of.ensures.rest.0))
    ∙ head_at seats d ∙ e

pub returns-clause-words : goal.returns-clause-words
returns-clause-words g c =
    let seats = c.args.self.now.seats.now.items in
    let channel = c.args.channel in
    let inside : channel < length seats
    = subst (λ (n : ℕ). c.args.channel < n) (length-map seats (is_some {T = Seat})) c.requires.channel in
    let new = reworded c.run_of.ensures.rest.0 (get_or seats channel None) in
    let at = ap (λ (l : List (Option Seat)). get_or l channel None) c.run_of.ensures.rest.1
    ∙ get_or-set_same seats channel new None inside in
    ap (map seat_words) c.run_of.ensures.rest.1 ∙ map-set seat_words seats channel new
    ∙ ap (set (map seat_words seats) channel)
    (sym (ap seat_words at) ∙ c.run_of.ensures.words
    ∙ ap (asked_all (word_of c.args.first) (last_word c.args.first (length c.args.out.now))) (sym (words_at seats channel)))
