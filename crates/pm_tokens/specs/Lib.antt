pub mod Answers
pub mod Tokens
pub mod Lexing
pub mod Lines
