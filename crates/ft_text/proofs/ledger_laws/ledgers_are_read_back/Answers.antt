-- a ledger gives its account
use Rattle.std.proofs.Common.{sym, ap, ◌∙◌}
use Rattle.ft_text.specs.LedgerReading.{ledger_of}
use Rattle.ft_text.proofs.LedgerWhole.{whole_back, in_form_2, in_form_1, same_account}
use Rattle.ft_text.proofs.ledger_laws.ledgers_are_read_back.Goals as goal

pub returns-clause-back : goal.returns-clause-back
returns-clause-back c a tellable ranges = whole_back c.known.ensures 2 a (in_form_2 c.known.ensures a tellable ranges) tellable ranges

pub returns-clause-old : goal.returns-clause-old
returns-clause-old c a old tellable ranges = whole_back c.known.ensures 1 a
    (in_form_1 c.known.ensures a old tellable ranges) tellable ranges

pub returns-clause-differ : goal.returns-clause-differ
returns-clause-differ c a b tellable_a ranges_a tellable_b ranges_b same =
    let back_a = whole_back c.known.ensures 2 a (in_form_2 c.known.ensures a tellable_a ranges_a) tellable_a ranges_a in
    let back_b = whole_back c.known.ensures 2 b (in_form_2 c.known.ensures b tellable_b ranges_b) tellable_b ranges_b in
    same_account a b (sym back_a ∙ ap ledger_of same ∙ back_b)
