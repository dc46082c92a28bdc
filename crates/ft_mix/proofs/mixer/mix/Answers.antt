use Rattle.std.proofs.Common.{ℕ, All, List, Bool, length, ◌≡◌, ◌≤◌, ◌+◌, ◌*◌, ◌/◌, ◌∙◌, arith, ap, subst, sym}
use Rattle.std.specs.List.{sum_by}
use Rattle.ft_types.specs.declared.voice.Voice.{Voice}
use Rattle.ft_replay.specs.Range.{IsVoiceInRange}
use Rattle.ft_replay.specs.Sound.{voices_after}
use Rattle.ft_replay.specs.Standing.{IsAscending}
use Rattle.ft_mix.specs.Mixing.{IsMixed, SoundsOn, tick_cost}
use Rattle.ft_mix.proofs.Costs.{costs_more, ones}
use Rattle.ft_mix.proofs.After.{voices_in_range, as_many, ascending_after, mixed_after}
use Rattle.ft_mix.proofs.mixer.mix.Goals as goal
use Rattle.ft_mix.proofs.mixer.mix.Given as over

-- the voices that are left, as the definition has them
left : (g : over.Over) (c : goal.After-settle-on g)
    → c.settle-on.result.items ≡ voices_after (length c.args.out.now / 2) c.args.voices.now.items
left g c = c.settle-on.ensures.on ∙ ap (voices_after (length c.args.out.now / 2)) c.as_slice-2.ensures.value

held : (g : over.Over) (c : goal.After-settle-on g)
    → length (g.V.SongView.holds c.settle-on.new.view) ≡ length (g.V.SongView.holds c.args.view.now)
held g c =
    ap (λ (l : List Bool). length l) c.settle-on.ensures.holds
    ∙ as_many (length c.args.out.now / 2) c.as_slice-2.result.now (g.V.SongView.holds c.fill.new.view)
    ∙ ap (λ (l : List Bool). length l) c.fill.ensures.holds

pub returns-clause-range : goal.returns-clause-range
returns-clause-range g c =
    subst (λ (voices : List Voice). All IsVoiceInRange voices) (sym (left g c))
    (voices_in_range (length c.args.out.now / 2) c.args.voices.now.items (λ i d lt. (c.requires.voices i d lt).range))

pub returns-clause-ascend : goal.returns-clause-ascend
returns-clause-ascend g c = λ low high p.
    subst (IsAscending low high) (sym (left g c))
    (ascending_after (length c.args.out.now / 2) low high c.args.voices.now.items p)

pub returns-clause-mixed : goal.returns-clause-mixed
returns-clause-mixed g c = λ low high p.
    let keeps = g.V.SongView.keeps c.settle-on.new.view in
    subst (λ (voices : List Voice). All (IsMixed keeps (length (g.V.SongView.holds c.settle-on.new.view))) voices)
    (sym (left g c))
    (subst (λ (n : ℕ). All (IsMixed keeps n) (voices_after (length c.args.out.now / 2) c.args.voices.now.items))
    (sym (held g c))
    (mixed_after (g.V.SongView.keeps c.args.view.now) keeps (length (g.V.SongView.holds c.args.view.now))
    (length c.args.out.now / 2) low high c.args.voices.now.items p c.requires.voices
    (λ k h le on s. c.settle-on.ensures.keeps k h (subst (λ (voices : List Voice). SoundsOn (length c.args.out.now / 2) voices k) (sym c.as_slice-2.ensures.value) on) (c.fill.ensures.keeps k h s))))

pub returns-clause-wide : goal.returns-clause-wide
returns-clause-wide g c = held g c

pub returns-clause-cost : goal.returns-clause-cost
returns-clause-cost g c =
    let frames = length c.args.out.now / 2 in
    let voices = c.args.voices.now.items in
    let filled =
    subst
    (λ (l : List Voice).
    g.V.SongView.work c.fill.new.view ≤ g.V.SongView.work c.args.view.now + sum_by (tick_cost frames) l)
    c.as_slice.ensures.value c.fill.ensures.cost in
    let settled =
    subst
    (λ (l : List Voice). g.V.SongView.work c.settle-on.new.view ≤ g.V.SongView.work c.fill.new.view + length l)
    c.as_slice-2.ensures.value c.settle-on.ensures.work.1 in
    let sums =
    costs_more (frames / 2 + 8) (6 * frames) 1 1 (frames / 2 + 9) (1 + 6 * frames) voices (omega arith)
    (omega arith) in
    let each = ones voices in
    omega (arith, filled, settled)
