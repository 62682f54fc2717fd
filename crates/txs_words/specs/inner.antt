-- What contracts within the crate cite, and no public one: a reader of the claims can pass these over.
pub mod Parsing
pub mod FileWords
