-- Laws that the proofs of this crate cite.
pub mod Proper
mod Walk
