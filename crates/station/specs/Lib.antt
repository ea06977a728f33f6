-- What a station holds, how it works off its inboxes, and what it does with each event.
pub mod State
pub mod Work
pub mod Events
pub mod Making
pub mod Laws
