pub mod Numbering
pub mod Numbered
pub mod Sending
pub mod ReadingBack
pub mod Testing
pub mod Samples
