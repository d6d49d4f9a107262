pub mod Ends
pub mod HubKeeping
pub mod SessionKeeping
pub mod StepsOver
pub mod Telling
pub mod TraceEnds
