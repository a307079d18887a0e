pub mod SameLemmas
