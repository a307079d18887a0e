pub mod FrontLemmas
pub mod LinkLemmas
pub mod PassLemmas
pub mod RoundLemmas
pub mod WindowLemmas
pub mod AnswerLemmas
pub mod JoinLemmas
