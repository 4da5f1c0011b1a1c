pub mod Grammar
pub mod Reading
pub mod GrammarLaws
pub mod TokenLimits
pub mod TokenDepths
pub mod LimitLaws
