pub mod Net
pub mod Count
pub mod Theorems
pub mod Whole
pub mod Runs
