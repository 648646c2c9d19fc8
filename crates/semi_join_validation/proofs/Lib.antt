-- The laws the proofs of this crate rest on.
pub mod Join
pub mod Joined
pub mod Turns
pub mod ToldByRanges
pub mod IndexedOperands
