pub mod Edits
pub mod Replies
pub mod Places
pub mod Words
pub mod Searches
pub mod Shown
pub mod Leads
pub mod Called
