pub mod Fitting
pub mod Delivering
pub mod Demand3
pub mod Saying
mod Laws
mod Samples
