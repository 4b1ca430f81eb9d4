pub mod Icmp
pub mod Message
