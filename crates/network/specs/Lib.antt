-- Stations and the copper between them, and the one theorem about them.
pub mod Network
pub mod Theorem
