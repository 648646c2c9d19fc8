-- Laws that the proofs of this crate cite.
pub mod RowResults
pub mod TableWords
