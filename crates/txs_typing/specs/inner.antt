-- Of the steps of typing, what each gives. No contract of `type_defs` or `type_query` stands on these.
pub mod View
pub mod Told
pub mod Parts
pub mod Bindings
