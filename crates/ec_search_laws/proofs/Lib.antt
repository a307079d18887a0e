pub mod ChildLemmas
pub mod NodeLemmas
