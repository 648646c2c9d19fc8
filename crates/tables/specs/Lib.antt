-- What the functions of this crate are held to, in terms of the definitions.
pub mod Columns
pub mod Entries
pub mod Kinds
pub mod LeftRows
pub mod SemiJoins
pub mod SiteWords
