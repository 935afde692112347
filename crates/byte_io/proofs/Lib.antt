pub mod AtLaws
pub mod InputLaws
pub mod InputsLaws
pub mod SinkLaws
