pub mod CountLemmas
pub mod PlanLemmas
pub mod RefusalLemmas
pub mod RollLaws
pub mod SortLemmas
