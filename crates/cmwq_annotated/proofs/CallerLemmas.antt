-- What a caller cites: of what notes are made, and that what actors give is declared.
pub use Rattle.cmwq_annotated.proofs.ActedLemmas.{acted_valid}
pub use Rattle.cmwq_annotated.proofs.DeclaredLemmas.{Declared, all_append, all_take, few_actors, valid_declared}
pub use Rattle.cmwq_annotated.proofs.InstrPieces.{instr_piece}
pub use Rattle.cmwq_annotated.proofs.NoteLemmas.{notes_append, reply_notes_are}
pub use Rattle.cmwq_annotated.proofs.PieceLemmas.{ascii, is_ascii, joint, line_piece, literal, named, no_feed, number, whole, within, work_piece}
