pub mod Glob
pub mod Reading
pub mod Tokens
pub mod Parts
pub mod Recorded
