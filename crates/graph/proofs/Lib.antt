-- Lemmas; other crates cite the public ones, as `Rattle.graph.proofs.Paths`.
pub mod Paths
pub mod Cut
pub mod Cycle
pub mod Decide
pub mod Span
pub mod Edges
pub mod Push
mod Adjoin
mod Judge
mod Beside
mod Search
mod Digits
mod Lines
mod Readings
mod Fronts
pub mod Accepts
