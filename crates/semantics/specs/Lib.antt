pub mod Program
pub mod Values
pub mod State
pub mod Meaning
pub mod Extent
pub mod WellFormed
pub mod Laws
pub mod Examples
