-- What contracts within the crate cite, and no public one: a reader of the claims can pass these over.
pub mod CarriedOut
pub mod Stopped
