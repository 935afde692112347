pub mod Definition
pub mod Seen
pub mod Lone
pub mod Changes
pub mod Tells
pub mod Laws
