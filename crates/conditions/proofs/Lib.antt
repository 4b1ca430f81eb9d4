pub mod Conditions
mod Surely
