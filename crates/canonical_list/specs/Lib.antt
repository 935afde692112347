pub mod Links
pub mod Rows
pub mod Finish
pub mod Numbers
