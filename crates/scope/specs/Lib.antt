pub mod Finding
pub mod Seeking
pub mod Parts
pub mod Lines
