-- Laws that the proofs of this crate cite.
pub mod Exchanges
pub mod RowWords
pub mod Sinking
pub mod HeapSort
