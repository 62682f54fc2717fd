-- What a tree means, and what offends in it: the laws of these definitions.
pub mod Folds
pub mod Weights
pub mod Unique
pub mod Judged
pub mod NotBoth
pub mod Globals
pub mod WellTyped
pub mod Safe
