pub mod Codec
pub mod FieldCodecs
pub mod FlagLemmas
pub mod LoopLemmas
pub mod NameLemmas
pub mod SizeLemmas
mod TagLemmas
pub mod VersionLemmas
pub mod WordCodecs
pub mod PartCodecs
pub mod WholeCodecs
pub mod ReadingLemmas
pub mod WritingLemmas
pub mod FrontLemmas
