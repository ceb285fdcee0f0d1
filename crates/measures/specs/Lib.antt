pub mod Measures
pub mod InnerOffers
