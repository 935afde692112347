pub mod SizeLaws
pub mod BlockLaws
pub mod SuperblockLaws
pub mod FrontLaws
