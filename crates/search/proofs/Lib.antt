mod Rankings
mod Joins
mod Stacks
pub mod Walks
mod Tables
mod Picking
mod Lowers
pub mod Bridges
pub mod Reaches
mod WorkedCases
