pub mod Fits
pub mod ByType
