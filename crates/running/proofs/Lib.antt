-- Laws that the proofs of this crate cite.
pub mod EmptyTables
pub mod StepNumbers
pub mod PlanRows
pub mod TableRows
pub mod Rearranged
pub mod GivenPlan
pub mod PlannedSteps
