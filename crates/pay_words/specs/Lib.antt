pub mod Requests
pub mod RequestViews
pub mod OptionViews
