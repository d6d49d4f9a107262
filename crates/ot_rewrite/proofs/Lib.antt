mod Rewritings
mod FormRules
mod CellSteps
mod SameRules
mod Operands
mod ChosenCases
mod ChosenRules
mod DeliveredEnds
mod DeliveredPlans
mod DeliveredWeights
mod DeliveredParts
mod FrontLaws
mod RulesKept
mod Reached
pub mod Ready
mod Fronted
mod SplitForms
mod SplitEnds
pub mod SplitExamples
pub mod Stepped
pub mod CasesLeft
mod CellExamples
mod MoveExamples
pub mod FormsThrough
