mod EndLemmas
mod FaultLemmas
mod FrontLemmas
mod KnownLemmas
