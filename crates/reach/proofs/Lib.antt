pub mod Agreeing
pub mod Placing
pub mod Own
pub mod Own4
pub mod Blending
pub mod Reached
mod Laws
mod Samples
