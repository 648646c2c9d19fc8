-- Laws that the proofs of this crate cite.
pub mod JoinFrom
pub mod ScanJoin
pub mod PlanJoin
pub mod FourNumbers
