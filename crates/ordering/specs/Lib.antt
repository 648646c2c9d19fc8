-- What the functions of this crate are held to, in terms of the definitions.
pub mod Flags
pub mod Met
