-- Names: tests of texts, loops over names, names that stand once.
pub mod Loops
pub mod Distinct
