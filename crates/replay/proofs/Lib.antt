-- A call as its outcome gives it.
pub mod Told
-- The patch of a number, where a cursor stands.
pub mod Numbered
