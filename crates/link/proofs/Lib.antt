-- Why a link keeps what it promises; what stands over plain variables serves other crates too.
pub mod Was
pub mod Begins
pub mod Edge
pub mod Handed
pub mod Came
pub mod Direction
pub mod Delivery
