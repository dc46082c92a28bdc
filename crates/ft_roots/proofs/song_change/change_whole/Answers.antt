use Rattle.std.proofs.Common.{◌≡◌, ◌+◌, ◌-◌, [], ◌∷◌, ◌++◌, None, refl, sym, subst, arith}
use Rattle.std.specs.Prelude.{set, length}
use Rattle.std.proofs.lemmas.List.{length_push, length-take}
use Rattle.ft_types.specs.declared.edit.Edit.{Edit}
use Rattle.ft_types.specs.declared.edit.Edit.TheVariants as edits
use Rattle.ft_edits.specs.Faults.{fault_of}
use Rattle.ft_edits.specs.Lists.{without_last}
use Rattle.ft_edits.specs.Patterns.{empty_pattern}
use Rattle.ft_edits.specs.Edited.{edited}
use Rattle.ft_image.specs.Values as values
use Rattle.ft_roots.specs.RootWords.{HasSongWords}
use Rattle.ft_roots.proofs.SongSame.{head_put, counts_put}
use Rattle.ft_roots.proofs.Faultless.{order_there, room_for_order, pattern_there}
use Rattle.ft_roots.proofs.song_change.change_whole.Goals as goal

pub returns-in-Order : goal.returns-in-Order
returns-in-Order c = λ m ps is valid none has.
    let none2 = subst (λ (e : Edit). fault_of m e ≡ None) c.in-Order.is none in
    subst (λ (e : Edit). HasSongWords c.set_order.new.words (edited m e) ps is) (sym c.in-Order.is)
    (c.set_order.ensures m ps is valid (order_there m c.in-Order.pos c.in-Order.p none2) has)

pub returns-in-Insorder : goal.returns-in-Insorder
returns-in-Insorder c = λ m ps is valid none has.
    let none2 = subst (λ (e : Edit). fault_of m e ≡ None) c.in-Insorder.is none in
    subst (λ (e : Edit). HasSongWords c.insert_order.new.words (edited m e) ps is) (sym c.in-Insorder.is)
    (c.insert_order.ensures m ps is valid
    (c.allowed_edits_name_what_is_there.ensures m (edits.Insorder c.in-Insorder.pos c.in-Insorder.p) none2)
    (room_for_order m c.in-Insorder.pos c.in-Insorder.p none2) has)

pub returns-in-Delorder : goal.returns-in-Delorder
returns-in-Delorder c = λ m ps is valid none has.
    let none2 = subst (λ (e : Edit). fault_of m e ≡ None) c.in-Delorder.is none in
    subst (λ (e : Edit). HasSongWords c.remove_order.new.words (edited m e) ps is) (sym c.in-Delorder.is)
    (c.remove_order.ensures m ps is valid (c.allowed_edits_name_what_is_there.ensures m (edits.Delorder c.in-Delorder.pos) none2) has)

pub returns-in-Restart : goal.returns-in-Restart
unfolding values.counts_word
returns-in-Restart c = λ m ps is valid none has.
    subst (λ (e : Edit). HasSongWords (set c.args.words.now 0 c.with_restart.result) (edited m e) ps is) (sym c.in-Restart.is)
    (head_put c.args.words.now m (record m { restart = c.in-Restart.pos }) ps is c.with_restart.result c.told-words
    (c.with_restart.ensures m valid has.head) refl refl refl refl has)

pub returns-in-Tempo : goal.returns-in-Tempo
unfolding values.counts_word
returns-in-Tempo c = λ m ps is valid none has.
    subst (λ (e : Edit). HasSongWords (set c.args.words.now 0 c.with_tempo.result) (edited m e) ps is) (sym c.in-Tempo.is)
    (head_put c.args.words.now m (record m { tempo = c.in-Tempo.n }) ps is c.with_tempo.result c.told-words
    (c.with_tempo.ensures m valid has.head) refl refl refl refl has)

pub returns-in-Bpm : goal.returns-in-Bpm
unfolding values.counts_word
returns-in-Bpm c = λ m ps is valid none has.
    subst (λ (e : Edit). HasSongWords (set c.args.words.now 0 c.with_bpm.result) (edited m e) ps is) (sym c.in-Bpm.is)
    (head_put c.args.words.now m (record m { bpm = c.in-Bpm.n }) ps is c.with_bpm.result c.told-words
    (c.with_bpm.ensures m valid has.head) refl refl refl refl has)

pub returns-in-Title : goal.returns-in-Title
returns-in-Title c = λ m ps is valid none has.
    subst (λ (e : Edit). HasSongWords c.put_title.new.words (edited m e) ps is) (sym c.in-Title.is)
    (c.put_title.ensures m ps is has)

pub returns-in-Newpat : goal.returns-in-Newpat
unfolding values.head_word
returns-in-Newpat c = λ m ps is valid none has.
    let new = m.patterns ++ empty_pattern m.channels c.in-Newpat.n ∷ [] in
    subst (λ (e : Edit). HasSongWords (set c.args.words.now 1 c.with_pattern_more.result) (edited m e) ps is) (sym c.in-Newpat.is)
    (counts_put c.args.words.now m (record m { patterns = new }) ps is c.with_pattern_more.result c.told-words
    (c.with_pattern_more.ensures m new valid has.counts (length_push m.patterns (empty_pattern m.channels c.in-Newpat.n)))
    refl refl refl refl has)

pub returns-in-Delpat : goal.returns-in-Delpat
unfolding values.head_word
returns-in-Delpat c = λ m ps is valid none has.
    let none2 = subst (λ (e : Edit). fault_of m e ≡ None) c.in-Delpat.is none in
    let new = without_last m.patterns in
    let some = pattern_there m none2 in
    let fewer : length new + 1 ≡ length m.patterns = omega (arith, length-take (length m.patterns - 1) m.patterns, some) in
    subst (λ (e : Edit). HasSongWords (set c.args.words.now 1 c.with_pattern_less.result) (edited m e) ps is) (sym c.in-Delpat.is)
    (counts_put c.args.words.now m (record m { patterns = new }) ps is c.with_pattern_less.result c.told-words
    (c.with_pattern_less.ensures m new valid has.counts fewer) refl refl refl refl has)
