pub mod Dividing
pub mod Failures
