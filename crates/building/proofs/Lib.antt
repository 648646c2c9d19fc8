-- The laws the proofs of this crate rest on.
pub mod Filling
pub mod Front
