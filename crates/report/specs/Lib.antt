pub mod Report
pub mod Due
