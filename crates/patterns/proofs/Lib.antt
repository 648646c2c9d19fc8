-- Laws that the proofs of this crate cite.
pub mod PositionReading
pub mod PatternReading
pub mod PatternFileReading
