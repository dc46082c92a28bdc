use Rattle.std.proofs.Common.{◌≡◌, ◌-◌, ◌≤◌, ℕ, true, false, length, refl, sym, subst, arith}
use Rattle.std.specs.Prelude.{nat_le}
use Rattle.std.proofs.lemmas.Bool.Decides.{nat_tests}
use Rattle.std.proofs.lemmas.List.{length-take}
use Rattle.ft_types.specs.declared.instrument.Instrument.{Instrument}
use Rattle.ft_edits.specs.Lists.{without_last}
use Rattle.ft_edits.specs.Instruments.{named_only}
use Rattle.ft_edits.specs.Samples.{without_sample}
use Rattle.ft_roots.specs.RootWords.{HasInstrumentWords}
use Rattle.ft_songedit.proofs.Roots.{few_left}
use Rattle.ft_songedit.proofs.instrument_words.drop_last_sample.Goals as goal

few_is : (n : ℕ) → n ≤ 1 → nat_le n 1 ≡ true
few_is n le = grind (arith, nat_tests)

many_is : (n : ℕ) → 2 ≤ n → nat_le n 1 ≡ false
many_is n le = grind (arith, nat_tests)

without_few : (x : Instrument) → length x.samples ≤ 1 → without_sample x ≡ named_only x.name
without_few x le = rw (few_is (length x.samples) le) refl

without_one : (x : Instrument) → 2 ≤ length x.samples → without_sample x ≡ record x { samples = without_last x.samples }
without_one x le = rw (many_is (length x.samples) le) refl

pub returns-then-count-le1 : goal.returns-then-count-le1
returns-then-count-le1 c = λ x ids few same small has.
    let count = c.sample_count-count.ensures x ids few has in
    let le : length x.samples ≤ 1 = omega (arith, count, c.if-count-le1.true) in
    subst (λ (y : Instrument). HasInstrumentWords c.name_words_alone.new.words y (without_last ids)) (sym (without_few x le))
    (subst (λ zs. HasInstrumentWords c.name_words_alone.new.words (named_only x.name) zs)
    (sym (few_left ids (omega (arith, le, same)))) (c.name_words_alone.ensures x ids has))

pub returns-then-count-le16 : goal.returns-then-count-le16
returns-then-count-le16 c = λ x ids few same small has.
    let count = c.sample_count-count.ensures x ids few has in
    let two : 2 ≤ length x.samples = omega (arith, count, c.if-count-le1.false) in
    let less = length-take (length x.samples - 1) x.samples in
    subst (λ (y : Instrument). HasInstrumentWords c.count_sample_less.new.words y (without_last ids)) (sym (without_one x two))
    (c.count_sample_less.ensures x (without_last x.samples) (without_last ids) (omega (arith, less, two))
    (c.drop_sample_id.ensures x ids small (omega (arith, same, count)) has))

pub returns-else-count-le16 : goal.returns-else-count-le16
returns-else-count-le16 c = λ x ids few same small has.
    let count = c.sample_count-count.ensures x ids few has in
    absurd (omega (arith, count, few, c.if-count-le16.false))
