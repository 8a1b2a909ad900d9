pub mod Seats
pub mod Closings
pub mod Tickets
pub mod Getting
pub mod Bulks
