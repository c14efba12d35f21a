pub mod Refusals
pub mod Lists
pub mod Sharing
pub mod Theorems
