-- Laws that the proofs of this crate cite.
pub mod ComparedRows
pub mod RowsBetween
pub mod ColumnsOfSides
