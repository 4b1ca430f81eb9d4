pub mod Fit
pub mod Mismatch
pub mod Says
pub mod Results
