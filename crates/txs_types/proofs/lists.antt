-- Loops over lists, and lists that are put together.
pub mod Gathering
pub mod Deciding
pub mod Collecting
