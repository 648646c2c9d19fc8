-- Laws that the proofs of this crate cite.
pub mod StepComponents
pub mod StepsHold
pub mod ComponentSolutions
