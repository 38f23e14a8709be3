mod AssembleLemmas
mod CommentLemmas
mod HeaderLemmas
mod Refused
mod TextLemmas
