-- A station as one page of bytes, and back.
pub mod Page
pub mod Reasons
pub mod Reading
pub mod Serving
pub mod Laws
