pub mod Known
pub mod Record
pub mod Ledger
pub mod LedgerWords
pub mod LedgerReading
pub mod LedgerAnswers
pub mod LedgerBack
pub mod LedgerExact
