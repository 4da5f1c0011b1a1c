pub mod MeaningLaws
pub mod VariableLaws
pub mod ConditionLaws
pub mod EventLaws
pub mod FixingLaws
