pub mod KeyLemmas
pub mod RefusalLemmas
