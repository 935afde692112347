pub mod Fault
pub mod At
pub mod Input
pub mod Inputs
