pub mod FittingTrees
pub mod FirstPlaces
pub mod PathLemmas
pub mod TokenByToken
pub mod ShorterLists
pub mod Leads
mod Examples
