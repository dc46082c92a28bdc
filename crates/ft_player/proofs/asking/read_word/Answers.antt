use Rattle.std.proofs.Common.{rules, ◌<◌, ◌*◌, ◌/◌, ℕ, ℤ, List, length, ap, sym, subst, ◌∙◌, arith}
use Rattle.ft_image.specs.Values.{frames_word}
use Rattle.ft_player.specs.Songs.{song_at, place_at}
use Rattle.ft_player.specs.Behind.{AreSongsBehind}
use Rattle.ft_player.proofs.Seated.{pinned_sample}
use Rattle.ft_player.proofs.asking.read_word.Goals as goal

pub returns-clause-word : goal.returns-clause-word
returns-clause-word g c = λ songs stands seated in_body.
    let a = c.args in
    let seat = a.seat.now in
    let new = c.frame_word-value.new.view.pass.now in
    let now : AreSongsBehind songs new = search (rules, stands) in
    let p = pinned_sample c.a_pinned_sample_may_be_shown.ensures songs a.pass.now new a.channel
    c.frame_word-value.new.view.channel seat c.frame_word-value.ensures.same.4
    c.frame_word-value.ensures.same.1 c.requires.pinned now seated in
    let inside : a.place < length p.sample.frames = subst (λ (n : ℕ). a.place < n) p.many c.requires.inside in
    let word : 4 * (a.place / 4) < length p.sample.frames = omega (arith, inside) in record {
      value = c.frame_word-value.ensures.answer (place_at songs seat.version) (song_at songs seat.version) seat.root p.sample
          p.may p.shows p.of word in_body
          ∙ ap (λ (f : List ℤ). frames_word f (a.place / 4)) (sym p.frames);
      body = in_body;
    }
