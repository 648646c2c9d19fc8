-- Laws that the proofs of this crate cite.
pub mod Writing
pub mod Spaced
pub mod FirstLines
pub mod RowLines
pub mod Printing
