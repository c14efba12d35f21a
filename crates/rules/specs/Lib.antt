pub mod Division
pub mod Sequences
pub mod Proportions
pub mod ProportionsLemmas
pub mod Eight
pub mod Turns
pub mod Orders
