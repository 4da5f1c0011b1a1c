mod MarkLemmas
mod TestMarks
mod SlotLemmas
mod BranchLemmas
mod StepMarks
mod MarkLaw
