pub mod Appending
mod Loops
mod Memory
mod Connections
mod Offers
