pub mod Prefixes
pub mod Lying
