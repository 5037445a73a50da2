pub mod Attacks
