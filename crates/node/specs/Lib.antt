-- What a node does, and what it promises.
pub mod Rules
pub mod Laws
