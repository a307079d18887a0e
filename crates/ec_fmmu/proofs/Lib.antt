pub mod OrderLemmas
pub mod SumLemmas
pub mod SeatLemmas
pub mod AddressLemmas
pub mod NextLemmas
pub mod RecordLemmas
pub mod RankLemmas
pub mod LegalLemmas
