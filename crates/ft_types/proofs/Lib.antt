pub mod KindsByName
mod Orders
mod Refills
mod Signed
mod WholeEdits
