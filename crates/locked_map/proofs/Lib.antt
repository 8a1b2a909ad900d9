pub mod Walk
pub mod Dues
pub mod Adding
pub mod Tickets
pub mod Seating
pub mod Getting
pub mod Crossing
