-- What the contracts of `pay_tree` cite.
pub mod Views
pub mod Owned
pub mod OwnedViews
pub mod Assigned
pub mod Sizes
pub mod PartViews
pub mod NameLists
