use Rattle.std.proofs.Common.{rules, ◌≡◌, is_some, sym, ap, subst, ◌∙◌, arith}
use Rattle.std.proofs.lemmas.Option.{same_Some}
use Rattle.ft_types.specs.Valid.{IsValidHead}
use Rattle.ft_shared.specs.Pass.{RegisterId, ReaderState}
use Rattle.ft_player.specs.Songs.{song_at, place_at}
use Rattle.ft_player.specs.Seats.{IsSeatOf}
use Rattle.ft_player.specs.Behind.{AreSongsBehind}
use Rattle.ft_player.proofs.Held.{held_song}
use Rattle.ft_player.proofs.Beginning.{begins_none, begins_unsound, new_seat}
use Rattle.ft_player.proofs.BegunRead.{begun_read}
use Rattle.ft_player.proofs.sounding.begun_seat.Goals as goal

pub returns-in_default-clause-begins : goal.returns-in_default-clause-begins
returns-in_default-clause-begins g c = λ songs stands.
    let a = c.args in
    let new = c.sample_root.new.view.pass.now in
    let now : AreSongsBehind songs new = search (rules, stands) in
    let h = held_song songs a.pass.now new a.version a.root c.sample_root.ensures.same.3 c.requires.held now in
    let missing = c.sample_root.ensures.missing (place_at songs a.version) (song_at songs a.version) h.may h.shows h.rooted in
    begins_none a.version (song_at songs a.version) a.instrument a.note (ap is_some (sym c.in_default.is) ∙ missing)

pub returns-then-found-segments-clause-begins : goal.returns-then-found-segments-clause-begins
returns-then-found-segments-clause-begins g c = λ songs stands.
    let a = c.args in
    let place = place_at songs a.version in
    let song = song_at songs a.version in
    let mid = c.sample_root.new.view.pass.now in
    let new = c.sample_head-head.new.view.pass.now in
    let now : AreSongsBehind songs new = search (rules, stands) in
    let b = begun_read songs a.pass.now mid new a.version a.root a.instrument a.note c.in-Some.found c.sample_head-head.result
    c.sample_root.result (c.a_pass_reads_on.ensures.through a.pass.now mid new c.sample_root.ensures.same.3
    c.sample_head-head.ensures.same.3) c.requires.held now c.in-Some.is
    c.sample_root.ensures.answer c.sample_root.ensures.missing c.sample_head-head.ensures.narrows c.sample_head-head.ensures.answer in
    let inside = b.song.among c.in-Some.found
    (c.a_shown_sample_is_of_its_version.ensures.segment place song c.in-Some.found b.read.sample b.song.shows b.read.of) in
    let on = c.a_pass_reads_on.ensures.through a.pass.now mid new c.sample_root.ensures.same.3 c.sample_head-head.ensures.same.3 in
    let same : new.register.sizes.segments ≡ a.shared.now.sizes.segments
    = ap (λ (x : ReaderState). x.register.sizes.segments) on.is
    ∙ ap (λ (x : RegisterId). x.sizes.segments) c.requires.here in
    let past = c.if-found-segments.true in
    let count = c.segments.ensures in
    absurd (omega (arith, inside, same, past, count))

pub returns-then-not-can_sound-clause-begins : goal.returns-then-not-can_sound-clause-begins
returns-then-not-can_sound-clause-begins g c = λ songs stands.
    let a = c.args in
    let place = place_at songs a.version in
    let song = song_at songs a.version in
    let mid = c.sample_root.new.view.pass.now in
    let new = c.sample_head-head.new.view.pass.now in
    let now : AreSongsBehind songs new = search (rules, stands) in
    let b = begun_read songs a.pass.now mid new a.version a.root a.instrument a.note c.in-Some.found c.sample_head-head.result
    c.sample_root.result (c.a_pass_reads_on.ensures.through a.pass.now mid new c.sample_root.ensures.same.3
    c.sample_head-head.ensures.same.3) c.requires.held now c.in-Some.is
    c.sample_root.ensures.answer c.sample_root.ensures.missing c.sample_head-head.ensures.narrows c.sample_head-head.ensures.answer in
    begins_unsound songs a.version a.instrument a.note c.in-Some.found c.sample_head-head.result b.read
    (λ x of. c.a_shown_sample_is_of_its_version.ensures.valid place song c.in-Some.found x b.song.shows of)
    (λ (valid : IsValidHead c.sample_head-head.result).
    let sounds = c.can_sound.ensures.1 valid in search (rules, sounds))

pub returns-clause-seated : goal.returns-clause-seated
returns-clause-seated g c = λ songs seat stands e.
    let a = c.args in
    let mid = c.sample_root.new.view.pass.now in
    let new = c.sample_head-head.new.view.pass.now in
    let now : AreSongsBehind songs new = search (rules, stands) in
    let b = begun_read songs a.pass.now mid new a.version a.root a.instrument a.note c.in-Some.found c.sample_head-head.result
    c.sample_root.result (c.a_pass_reads_on.ensures.through a.pass.now mid new c.sample_root.ensures.same.3
    c.sample_head-head.ensures.same.3) c.requires.held now c.in-Some.is
    c.sample_root.ensures.answer c.sample_root.ensures.missing c.sample_head-head.ensures.narrows c.sample_head-head.ensures.answer in
    let valid : IsValidHead c.sample_head-head.result = search rules in
    subst (IsSeatOf songs) (same_Some _ seat e)
    (new_seat songs (record {
      version = a.version;
      root = c.in-Some.found;
      instrument = a.instrument;
      note = a.note;
      head = c.sample_head-head.result;
      words = c.none.result;
    }) b.read valid c.none.ensures.kept)
