pub mod Settling
pub mod Placing
pub mod Calling
