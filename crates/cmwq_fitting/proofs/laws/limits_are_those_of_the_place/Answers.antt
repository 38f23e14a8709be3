-- The definitions compute it.
use lib.Utf8.{encode}
use Rattle.std.proofs.Common.{arith, inl, inr, refl}
use Rattle.std.specs.Fmt.{digits}
use Rattle.std.specs.Str.{chars, is_utf8}
use Rattle.cmwq_grammar.specs.LineFields.{after_word, declared_at, ended, name_at, new_name_at, number_at, number_where, word_at}
use Rattle.cmwq_grammar.specs.Instructions.{cannot_stand, instr_at, line_at}
use Rattle.cmwq_grammar.specs.Meaning.{reads, reads_lines, stage_after}
use Rattle.cmwq_grammar.specs.LineReasons.{add_flag, add_line, add_op, add_queue, add_work, at_end, flags_at_line, judge, op_at_line, open_actor, open_body, queue_at_line, step, work_at_line}
use Rattle.cmwq_fitting.proofs.laws.limits_are_those_of_the_place.Goals as goal

pub returns-clause-max : goal.returns-clause-max
unfolding digits encode chars is_utf8 after_word declared_at ended name_at new_name_at number_at number_where word_at cannot_stand instr_at line_at reads reads_lines stage_after add_flag add_line add_op add_queue add_work at_end flags_at_line judge op_at_line open_actor open_body queue_at_line step work_at_line
returns-clause-max c = record { least = inr (refl, refl); low = refl; high = refl; behind = refl; in_order = omega arith }

pub returns-clause-times : goal.returns-clause-times
unfolding digits encode chars is_utf8 after_word declared_at ended name_at new_name_at number_at number_where word_at cannot_stand instr_at line_at reads reads_lines stage_after add_flag add_line add_op add_queue add_work at_end flags_at_line judge op_at_line open_actor open_body queue_at_line step work_at_line
returns-clause-times c = record { least = inr (refl, refl); low = refl; high = refl; behind = refl; in_order = omega arith }

pub returns-clause-pools : goal.returns-clause-pools
unfolding digits encode chars is_utf8 after_word declared_at ended name_at new_name_at number_at number_where word_at cannot_stand instr_at line_at reads reads_lines stage_after add_flag add_line add_op add_queue add_work at_end flags_at_line judge op_at_line open_actor open_body queue_at_line step work_at_line
returns-clause-pools c = record { least = inl refl; low = refl; high = refl; behind = refl; in_order = omega arith }
