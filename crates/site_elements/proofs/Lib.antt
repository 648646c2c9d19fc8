-- Laws that the proofs of this crate cite.
pub mod Replies
pub mod Terms
pub mod RowReading
pub mod DeclarationReading
