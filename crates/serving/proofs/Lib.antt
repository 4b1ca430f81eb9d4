pub mod Lent
pub mod Loop
pub mod Wholes
