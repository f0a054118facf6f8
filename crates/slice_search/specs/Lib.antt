-- In reading order.
pub mod Cost
pub mod Sought
pub mod Needs
pub mod Sightings
pub mod Seekers
pub mod Live
pub mod Reach
pub mod Monotone
pub mod Walk
