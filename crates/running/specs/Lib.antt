-- What the functions of this crate are held to, in terms of the definitions.
pub mod EmptyTables
pub mod Chosen
pub mod WholeTable
pub mod Planned
pub mod Prepared
