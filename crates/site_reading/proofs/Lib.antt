-- Laws that the proofs of this crate cite.
pub mod Reading
pub mod Writing
pub mod Declarations
pub mod Replies
