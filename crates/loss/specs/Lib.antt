pub mod Answered
pub mod Loss
pub mod Told
pub mod History
