-- What the contracts of `pay_fixed` cite.
pub mod Round
pub mod Smooth
pub mod Weights
pub mod WeightLaws
pub mod Grammar
pub mod Reading
pub mod Decimal
pub mod Parts
pub mod Laws
