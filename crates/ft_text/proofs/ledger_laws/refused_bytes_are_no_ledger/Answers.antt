-- the ledger of an account would be read
use Rattle.std.proofs.Common.{◌≡◌, ◌≢◌, ℕ, List, Ok, Err, Result, sym, ap, ◌∙◌}
use Rattle.ft_text.specs.Record.{LedgerAccount}
use Rattle.ft_text.specs.LedgerReading.{ledger_of}
use Rattle.ft_text.proofs.LedgerWhole.{whole_back, in_form_2, in_form_1}
use Rattle.ft_text.proofs.Settled.{wrong_line_settles}
use Rattle.ft_text.proofs.LinesGoOn.{lines_go_on}
use Rattle.ft_text.proofs.ledger_laws.refused_bytes_are_no_ledger.Goals as goal

not_read : (text bytes : List ℕ) (line : ℕ) (a : LedgerAccount) → ledger_of bytes ≡ Err line → ledger_of text ≡ Ok a → text ≢ bytes
not_read text bytes line a wrong read same =
    let both : ◌≡◌ {A = Result LedgerAccount ℕ} (Ok a) (Err line) = sym read ∙ ap ledger_of same ∙ wrong in
    absurd (cc)

pub returns-clause-settled : goal.returns-clause-settled
returns-clause-settled c = wrong_line_settles

pub returns-clause-front : goal.returns-clause-front
returns-clause-front c lines rest are small wrong a other tellable ranges =
    let there = wrong_line_settles lines rest other are small wrong in (
      not_read _ _ _ a there (whole_back c.known.ensures 2 a (in_form_2 c.known.ensures a tellable ranges) tellable ranges),
      λ old. not_read _ _ _ a there (whole_back c.known.ensures 1 a (in_form_1 c.known.ensures a old tellable ranges) tellable ranges),
    )

pub returns-clause-none : goal.returns-clause-none
returns-clause-none c bytes line wrong a tellable ranges = (
  not_read _ bytes line a wrong (whole_back c.known.ensures 2 a (in_form_2 c.known.ensures a tellable ranges) tellable ranges),
  λ old. not_read _ bytes line a wrong (whole_back c.known.ensures 1 a (in_form_1 c.known.ensures a old tellable ranges) tellable ranges),
)

pub returns-clause-first : goal.returns-clause-first
returns-clause-first c = lines_go_on c.known.ensures
