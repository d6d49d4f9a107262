pub mod Closed
pub mod Chains
pub mod Stands
pub mod RowSteps
pub mod AddingSteps
pub mod FloorSteps
pub mod FloorsBeyond
