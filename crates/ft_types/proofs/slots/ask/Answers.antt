use Rattle.std.proofs.Common.{ℕ, List, None, map, set, is_some, ap, sym, ◌∙◌}
use Rattle.std.proofs.Math.Seq.{map-set_same}
use Rattle.std.proofs.lemmas.List.{map-set}
use Rattle.ft_types.specs.declared.kept.Kept.{Kept}
use Rattle.ft_types.specs.ModuleViews.{owned_in, words_kept}
use Rattle.ft_types.specs.ModuleViewLaws.{words_at}
use Rattle.ft_types.specs.Work.{asked, word_of}
use Rattle.ft_types.proofs.Refills.{found, written}
use Rattle.ft_types.proofs.slots.ask.Goals as goal

pub returns-clause-owned : goal.returns-clause-owned
returns-clause-owned c = λ version.
    let slots = c.args.slots.now.items in
    ap (map (owned_in version))
    (written slots c.as_mut_slice.result.now c.from.result c.args.channel c.ask_one.new.kept
    c.as_mut_slice.ensures.value c.from.ensures)
    ∙ map-set_same (owned_in version) slots c.args.channel c.ask_one.new.kept None
    (c.ask_one.ensures.owned version
    ∙ ap (owned_in version)
    (found slots c.as_mut_slice.result.now c.from.result c.args.channel c.index-as_mut_slice-from.result
    None c.as_mut_slice.ensures.value c.from.ensures c.requires.channel))

pub returns-clause-some : goal.returns-clause-some
returns-clause-some c =
    let slots = c.args.slots.now.items in
    ap (map (is_some {T = Kept}))
    (written slots c.as_mut_slice.result.now c.from.result c.args.channel c.ask_one.new.kept
    c.as_mut_slice.ensures.value c.from.ensures)
    ∙ map-set_same (is_some {T = Kept}) slots c.args.channel c.ask_one.new.kept None
    (c.ask_one.ensures.some ∙ sym c.requires.kept)

pub returns-clause-words : goal.returns-clause-words
returns-clause-words c =
    let slots = c.args.slots.now.items in
    ap (map words_kept)
    (written slots c.as_mut_slice.result.now c.from.result c.args.channel c.ask_one.new.kept
    c.as_mut_slice.ensures.value c.from.ensures)
    ∙ map-set words_kept slots c.args.channel c.ask_one.new.kept
    ∙ ap (set (map words_kept slots) c.args.channel) (c.ask_one.ensures.words
    ∙ ap (λ (k : List ℕ). asked (word_of c.args.place) k)
    (ap words_kept
    (found slots c.as_mut_slice.result.now c.from.result c.args.channel c.index-as_mut_slice-from.result None
    c.as_mut_slice.ensures.value c.from.ensures c.requires.channel)
    ∙ sym (words_at slots c.args.channel)))
