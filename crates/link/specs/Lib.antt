-- One end of a link, the copper between two, and what holds whatever the copper does.
pub mod Ends
pub mod Copper
pub mod Theorems
