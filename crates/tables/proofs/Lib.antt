pub mod KindsOfCode
pub mod Partners
pub mod Comparisons
pub mod Images
pub mod Entries
pub mod Reduced
pub mod SemiJoins
pub mod Declared
