pub mod Sums
pub mod Outcomes
