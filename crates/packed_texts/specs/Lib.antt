pub mod PackedTexts
