pub mod Directory
pub mod Blocks
pub mod Window
pub mod Layout
pub mod Stream
pub mod FreeMap
pub mod Laws
