pub mod Checksum
mod Words
mod Decoded
mod Sealed
pub mod Carried
