-- What the functions of this crate are held to beside the definitions.
pub mod Reading
