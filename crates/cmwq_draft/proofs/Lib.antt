mod BodyLemmas
mod LastLemmas
mod MnemonicLemmas
mod Refused
