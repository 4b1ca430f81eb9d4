pub mod Laws
pub mod Samples
pub mod Exempts
pub mod Answering
pub mod Dues
