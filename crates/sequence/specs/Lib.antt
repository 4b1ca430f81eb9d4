pub mod Sequence
pub mod Numbered
pub mod Parts
