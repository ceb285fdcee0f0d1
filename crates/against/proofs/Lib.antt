-- The laws of folds that skip, and of what is known of listed items.
pub mod Folds
pub mod Known
