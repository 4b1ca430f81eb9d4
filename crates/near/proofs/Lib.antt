pub mod AtGtp6D
pub mod AtD4
