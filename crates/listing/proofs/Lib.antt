-- The laws of listed items.
pub mod Growing
pub mod Listed
