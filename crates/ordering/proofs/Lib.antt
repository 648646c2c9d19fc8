-- Laws that the proofs of this crate cite.
pub mod MetNotes
pub mod Picking
