pub mod RootWords
pub mod PartEdits
