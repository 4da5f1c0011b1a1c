-- What the contracts of `pay_canonical` cite.
pub mod CanonicalLaw
