pub mod Fault
pub mod Maps
pub mod Merge
pub mod MeasuredTable
