pub mod Trades
pub mod Views
pub mod Found
pub mod Booked
pub mod Entered
pub mod SettingOff
