use Rattle.std.proofs.Common.{◌∙◌, List, ℕ, ap, sym, subst}
use Rattle.std.specs.Prelude.{slice_get}
use Rattle.ft_types.specs.declared.sample.Sample.{Sample}
use Rattle.ft_edits.specs.Changes.{sample_changed}
use Rattle.ft_edits.specs.Edited.{edited}
use Rattle.ft_segments.specs.Walk.{SampleIds, ids_of}
use Rattle.ft_changes.specs.declared.reach.Reach.{Reach}
use Rattle.ft_changes.specs.declared.reach.Reach.TheVariants as reaches
use Rattle.ft_changes.specs.Ids.{ids_after}
use Rattle.ft_changes.specs.Reached.{IsReached}
use Rattle.ft_changes.specs.Reaches.{needed}
use Rattle.ft_smpedit.specs.Filled.{Refills, AreFilled}
use Rattle.ft_smpedit.proofs.Touched.{touched}
use Rattle.ft_smpedit.proofs.writing.write_frames.Goals as goal

pub returns-clause-written : goal.returns-clause-written
returns-clause-written g c = λ p m at s may shows root givable none is count once y q y_is q_is x segments x_is segments_is.
    let e = c.args.e.now in
    let range = c.args.range in
    let fresh : List ℕ = c.args.fresh.now in
    let now = c.write_slots.new.words in
    let pool = g.F.Fill.written now in
    let reach : Reach = reaches.Frames at s range.first range.last range.gone in
    let reached = subst (λ (r : Reach). IsReached r m (edited m e)) is (c.an_edit_changes_what_it_reaches.ensures m e shows.valid none) in
    let long = count ∙ ap (λ (r : Reach). needed r) is in
    let takes = c.what_was_reached_fits.ensures p m (edited m e) reach fresh shows reached long in
    let t = touched p m e at s c.args.sample range.first range.last range.gone fresh shows
    (c.valid_stays_valid.ensures.edited m e shows.valid c.holds_fields.ensures none)
    (c.allowed_edits_name_what_is_there.ensures m e none) givable is reached takes
    (c.one_is_changed.ensures.frames m e) c.fresh_frames_are_in_order.ensures root in
    let refills : Refills g.F.WordView.may_show now p c.args.sample e range fresh t.sample t.old t.new = record {
      song = m;
      may = may;
      shows = shows;
      of = t.of;
      ids = t.ids;
      named = t.named;
      frames = t.frames;
      stretch = t.stretch;
      refilled = t.refilled;
      count = long;
      few = t.few;
    } in
    let there = ap (λ (r : Reach). slice_get (ids_after r fresh (ids_of p)).instruments at) (sym is) ∙ q_is in
    subst (λ (x : Sample). AreFilled pool range x segments) (t.samples y x y_is x_is)
    (subst (λ (ids : SampleIds). AreFilled pool range (sample_changed e t.sample) ids) (t.segments q segments there segments_is)
    (c.write_slots.ensures.written p t.sample t.old t.new refills once))
