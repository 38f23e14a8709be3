pub mod Choosing
pub mod CounterLemmas
pub mod Doings
pub mod Frames
pub mod GoingLemmas
pub mod HeadLemmas
pub mod IdleLemmas
mod LawLemmas
pub mod ModRepeatLemmas
pub mod RepeatLemmas
pub mod RunLemmas
pub mod Runs
pub mod TimesLemmas
