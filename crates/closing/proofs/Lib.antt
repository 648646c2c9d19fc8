-- Laws that the proofs of this crate cite.
pub mod Checks
pub mod GivenPlans
