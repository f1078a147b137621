pub mod Prices
pub mod Tiered
pub mod Folds
