-- What the types of entries and refusals say, with what is asked of them, are their ranges.
use Rattle.std.proofs.Common.{List, All}
use Rattle.ft_types.specs.declared.journal.Entry.{Entry}
use Rattle.ft_types.specs.declared.journal.Refusal.{Refusal}
use Rattle.ft_text.specs.Record.{CanBeEntered, CanBeRefused}
use Rattle.ft_text.specs.LedgerBack.{EntryIsTyped, EntryHasRanges, RefusalIsTyped, RefusalHasRanges, IsBatchLength}

pub entries_have : (entries : List Entry) → All EntryIsTyped entries → All CanBeEntered entries
    → All (λ entry. IsBatchLength entry.batch) entries → All EntryHasRanges entries
entries_have entries typed given counted = λ k d inside.
    let t = typed k d inside in
    let n = counted k d inside in
    (t.0, t.1, t.2, record { some = n.0; few = n.1; ranges = t.3; givable = given k d inside })

pub refusals_have : (refusals : List Refusal) → All RefusalIsTyped refusals → All CanBeRefused refusals
    → All (λ refusal. IsBatchLength refusal.batch) refusals → All RefusalHasRanges refusals
refusals_have refusals typed given counted = λ k d inside.
    let t = typed k d inside in
    let n = counted k d inside in
    (t.0, t.1, record { some = n.0; few = n.1; ranges = t.2; givable = (given k d inside).0 }, t.3)
