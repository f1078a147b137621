pub mod Ranks
pub mod Model
pub mod Picks
pub mod Worked
