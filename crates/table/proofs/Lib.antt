pub mod Bounds
mod Conditions
mod Order
mod Ranges
pub mod Trying
mod Surely
