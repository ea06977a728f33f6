-- What the contracts of this crate cite; `Graph` and `Theorems` are what other crates build on.
pub mod Graph
pub mod Theorems
pub mod Edges
pub mod Lists
pub mod Faults
pub mod Build
pub mod Reach
pub mod Marks
pub mod Text
pub mod Items
pub mod Reading
pub mod Turns
pub mod MarkLines
pub mod Exact
