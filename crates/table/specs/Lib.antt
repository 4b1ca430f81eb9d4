pub mod Keys
pub mod Records
