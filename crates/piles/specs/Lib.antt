pub mod Exchanges
pub mod Piles
