-- How typing an expression comes to its result: a lemma for each step.
pub mod Exprs
pub mod Calls
pub mod Inside
pub mod Finish
pub mod CallNodes
pub mod Sides
pub mod Bindings
pub mod Told
