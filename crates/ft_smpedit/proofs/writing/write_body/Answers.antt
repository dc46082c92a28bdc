use Rattle.std.proofs.Common.{◌≡◌, ◌∙◌, ◌+◌, ◌*◌, ℕ, get_or, pos, ap, sym, subst, arith}
use Rattle.ft_types.specs.declared.voice.SampleHead.{SampleHead}
use Rattle.ft_edits.specs.Changes.{sample_changed}
use Rattle.ft_image.specs.Read.{MayShowSample}
use Rattle.ft_smpedit.specs.Kept.{ReadsSample}
use Rattle.ft_smpedit.specs.Sources.{HasNamedFrames}
use Rattle.ft_smpedit.proofs.Packs.{same_frames}
use Rattle.ft_smpedit.proofs.writing.write_body.Goals as goal

pub returns-clause-written : goal.returns-clause-written
returns-clause-written g c = λ p range fresh x old new r place lt.
    let root = c.args.sample in
    let e = c.args.e.now in
    let n = c.args.n in
    let out = c.read_body.new.out in
    let frames = (sample_changed e x).frames in
    let reads : ReadsSample g.F.WordView.may_show c.read_body.new.view p root x = record {
      song = r.song;
      may = λ s is used. c.fill_with.ensures.narrows p s (r.may s is);
      shows = r.shows;
      of = r.of;
    } in
    let before : MayShowSample g.F.WordView.may_show c.sample_head-head.new.view p root = λ s is used. c.read_body.ensures.narrows p s (reads.may s is used) in
    let head = c.sample_head-head.ensures.answer p r.song x before r.shows r.of in
    let count = ap (λ (h : SampleHead). h.frames) head in
    let wide = ap (λ (h : SampleHead). h.wide) head in
    let named = subst (λ (k : ℕ). HasNamedFrames k e) (sym count) r.frames in
    c.fill_with.ensures.filled p r.may place lt
    ∙ same_frames out frames (0 + place) (n * 256 + place) (λ i low.
    let same : n * 1024 + ((0 + place) * 4 + i) ≡ (n * 256 + place) * 4 + i = omega arith in
    c.read_body.ensures.answer p x reads count wide named ((0 + place) * 4 + i) (omega (arith, lt, low))
    ∙ ap (λ (k : ℕ). get_or frames k (pos 0)) same)
