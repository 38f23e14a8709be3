mod AdvanceLemmas
pub mod ExecLemmas
mod SettledLemmas
mod ModAgainLemmas
mod NextLemmas
mod RepeatedLemmas
pub mod StartLemmas
