pub mod TextLaws
pub mod TakeLaws
pub mod PlainLaws
pub mod HexadecimalLaws
