-- What a caller cites: the laws of texts, and how they are cut.
pub use Rattle.cmwq_grammar.proofs.CanonicalLines.{cut_none, line_cut}
pub use Rattle.cmwq_grammar.proofs.CommentLemmas.{commented_spells, listing_short}
pub use Rattle.cmwq_grammar.proofs.FaultLemmas.{fault_is, is_fault}
pub use Rattle.cmwq_grammar.proofs.ListingLemmas.{listing_spells}
pub use Rattle.cmwq_grammar.proofs.ReadingLemmas.{read_spells}
pub use Rattle.cmwq_grammar.proofs.SpellingLemmas.{one_spelled, spelled_reads}
