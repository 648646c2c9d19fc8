-- The laws the proofs of this crate rest on.
pub mod Partnered
pub mod ColumnRanges
pub mod SortedObjects
pub mod SearchableTables
pub mod ComparedColumns
