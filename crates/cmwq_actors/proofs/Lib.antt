mod EndingLemmas
mod FrontLemmas
mod IssueLemmas
mod PlayedLemmas
mod RestLemmas
mod ValidLemmas
