pub mod Numbers
pub mod Reading
pub mod Lists
pub mod Putting
pub mod Outcomes
pub mod Checks
pub mod Runs
