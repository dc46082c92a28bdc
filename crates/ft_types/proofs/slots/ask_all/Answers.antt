use Rattle.std.proofs.Common.{◌≡◌, Option, Some, true, get_or, ℕ, List, None, length, map, set, is_some, ap, sym, ◌∙◌}
use Rattle.std.proofs.Math.Seq.{map-set_same}
use Rattle.std.proofs.lemmas.List.{map-set}
use Rattle.ft_types.specs.declared.kept.Kept.{Kept}
use Rattle.ft_types.specs.declared.voice.SampleHead.{SampleHead}
use Rattle.ft_types.specs.Views.{head_of_owned}
use Rattle.ft_types.specs.ModuleViews.{owned_in, words_kept}
use Rattle.ft_types.specs.ModuleViewLaws.{words_at, has_head}
use Rattle.ft_types.specs.Work.{asked_all, last_word, word_of}
use Rattle.ft_types.proofs.Refills.{found, written}
use Rattle.ft_types.proofs.slots.ask_all.Goals as goal

-- what has a head is kept
kept_here : (kept : List (Option Kept)) (c : ℕ) (h : SampleHead)
    → head_of_owned (owned_in 0 (get_or kept c None)) ≡ Some h
    → is_some {T = Kept} (get_or kept c None) ≡ true
kept_here kept c h e = sym (has_head (get_or kept c None)) ∙ ap is_some e

pub returns-clause-owned : goal.returns-clause-owned
returns-clause-owned c = λ version.
    let slots = c.args.slots.now.items in
    ap (map (owned_in version))
    (written slots c.as_mut_slice.result.now c.from.result c.args.channel c.ask_all_of.new.kept
    c.as_mut_slice.ensures.value c.from.ensures)
    ∙ map-set_same (owned_in version) slots c.args.channel c.ask_all_of.new.kept None
    (c.ask_all_of.ensures.owned version
    ∙ ap (owned_in version)
    (found slots c.as_mut_slice.result.now c.from.result c.args.channel c.index-as_mut_slice-from.result
    None c.as_mut_slice.ensures.value c.from.ensures c.requires.channel))

pub returns-clause-some : goal.returns-clause-some
returns-clause-some c =
    let slots = c.args.slots.now.items in
    ap (map (is_some {T = Kept}))
    (written slots c.as_mut_slice.result.now c.from.result c.args.channel c.ask_all_of.new.kept
    c.as_mut_slice.ensures.value c.from.ensures)
    ∙ map-set_same (is_some {T = Kept}) slots c.args.channel c.ask_all_of.new.kept None
    (c.ask_all_of.ensures.some ∙ sym (kept_here slots c.args.channel c.requires.inside.0 c.requires.inside.1))

pub returns-clause-words : goal.returns-clause-words
returns-clause-words c =
    let slots = c.args.slots.now.items in
    ap (map words_kept)
    (written slots c.as_mut_slice.result.now c.from.result c.args.channel c.ask_all_of.new.kept
    c.as_mut_slice.ensures.value c.from.ensures)
    ∙ map-set words_kept slots c.args.channel c.ask_all_of.new.kept
    ∙ ap (set (map words_kept slots) c.args.channel) (c.ask_all_of.ensures.words
    ∙ ap (λ (k : List ℕ). asked_all (word_of c.args.first) (last_word c.args.first (length c.args.out.now)) k)
    (ap words_kept
    (found slots c.as_mut_slice.result.now c.from.result c.args.channel c.index-as_mut_slice-from.result None
    c.as_mut_slice.ensures.value c.from.ensures c.requires.channel)
    ∙ sym (words_at slots c.args.channel)))
