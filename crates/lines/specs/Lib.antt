pub mod Seen
pub mod Asked
