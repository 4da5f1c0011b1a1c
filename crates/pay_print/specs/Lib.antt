-- What the contracts of `pay_print` cite.
pub mod StepText
pub mod TreeText
pub mod PrintLaws
