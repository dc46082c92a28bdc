mod Worked
mod Lines
pub mod Decimals
pub mod FirstByte
pub mod FrameWords
pub mod ReadingLaws
pub mod WordsBack
pub mod ValuesBack
pub mod EditsBack
pub mod LinesBack
pub mod InSpaces
pub mod Skipped
pub mod PlainBytes
pub mod ValuesInRange
pub mod EditsInRange
pub mod WholeEdits
pub mod Closing
pub mod KindNames
pub mod NumbersRead
pub mod Givable
