-- Facts about a node; those of a public module serve other crates too.
pub mod Lightest
pub mod Sent
pub mod Took
pub mod Cases
pub mod Forms
pub mod After
pub mod Goes
pub mod Stays
pub mod Fits
pub mod Lost
pub mod Within
pub mod Runs
