-- Laws that the proofs of this crate cite.
pub mod Groups
pub mod NumberReplies
