-- What the functions of this crate are held to.
pub mod OneHashFilter
pub mod Probed
