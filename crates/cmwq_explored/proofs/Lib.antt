mod AskingLemmas
mod ExploringLemmas
mod FoundLemmas
mod StepLemmas
