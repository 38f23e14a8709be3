pub mod FieldLemmas
pub mod FirstLemmas
mod NameLemmas
pub mod SettingLemmas
