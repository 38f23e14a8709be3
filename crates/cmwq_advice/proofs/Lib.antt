mod NameLemmas
mod OptionLemmas
