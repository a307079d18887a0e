pub mod IsFirstPhase
