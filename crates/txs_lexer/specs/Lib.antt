pub mod Words
pub mod Tokens
pub mod Lexed
pub mod Scan
