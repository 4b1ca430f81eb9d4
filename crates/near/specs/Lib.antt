pub mod Asked
pub mod Gtp6DPlan
