-- What the contracts of `pay_ranges` cite.
pub mod Views
