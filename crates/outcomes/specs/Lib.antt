pub mod Answers
pub mod Lent
pub mod Operations
pub mod ThirdProperty
pub mod Alike
pub mod Rules
pub mod Inner
