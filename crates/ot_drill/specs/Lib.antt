pub mod Workload
pub mod Events
pub mod Playing
pub mod FineEvents
