pub mod Clients
