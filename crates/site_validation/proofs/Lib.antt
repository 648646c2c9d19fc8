-- The laws the proofs of this crate rest on.
pub mod Declared
pub mod Tables
