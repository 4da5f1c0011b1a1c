-- What the contracts of `pay_text` cite.
pub mod Text
