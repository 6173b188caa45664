pub mod Trees
pub mod Bits
pub mod SetLaws
pub mod Substrings
pub mod FirstFits
pub mod Links
pub mod Paths
