pub mod Lines
pub mod Levels
pub mod Texts
pub mod Reports
pub mod Examples
