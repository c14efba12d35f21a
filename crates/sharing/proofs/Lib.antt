pub mod Made
mod Owners
mod Portions
pub mod Shares
pub mod Laws
