pub mod Behind
pub mod Digits
pub mod Lamps
pub mod Neighbours
