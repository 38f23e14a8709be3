-- The definitions compute it.
use lib.Utf8.{encode}
use Rattle.std.proofs.Common.{refl}
use Rattle.std.specs.Fmt.{digits}
use Rattle.std.specs.Str.{chars, is_utf8}
use Rattle.cmwq_grammar.specs.LineFields.{after_word, declared_at, ended, name_at, new_name_at, number_at, number_where, word_at}
use Rattle.cmwq_grammar.specs.Instructions.{cannot_stand, instr_at, line_at}
use Rattle.cmwq_grammar.specs.Meaning.{reads, reads_lines, stage_after}
use Rattle.cmwq_grammar.specs.LineReasons.{add_flag, add_line, add_op, add_queue, add_work, at_end, flags_at_line, judge, op_at_line, open_actor, open_body, queue_at_line, step, work_at_line}
use Rattle.cmwq_fitting.proofs.examples.names_fit_by_their_kind.Goals as goal

pub returns-clause-work : goal.returns-clause-work
unfolding digits encode chars is_utf8 after_word declared_at ended name_at new_name_at number_at number_where word_at cannot_stand instr_at line_at reads reads_lines stage_after add_flag add_line add_op add_queue add_work at_end flags_at_line judge op_at_line open_actor open_body queue_at_line step work_at_line
returns-clause-work c = refl

pub returns-clause-no_queue : goal.returns-clause-no_queue
unfolding digits encode chars is_utf8 after_word declared_at ended name_at new_name_at number_at number_where word_at cannot_stand instr_at line_at reads reads_lines stage_after add_flag add_line add_op add_queue add_work at_end flags_at_line judge op_at_line open_actor open_body queue_at_line step work_at_line
returns-clause-no_queue c = refl

pub returns-clause-undeclared : goal.returns-clause-undeclared
unfolding digits encode chars is_utf8 after_word declared_at ended name_at new_name_at number_at number_where word_at cannot_stand instr_at line_at reads reads_lines stage_after add_flag add_line add_op add_queue add_work at_end flags_at_line judge op_at_line open_actor open_body queue_at_line step work_at_line
returns-clause-undeclared c = refl

pub returns-clause-new : goal.returns-clause-new
unfolding digits encode chars is_utf8 after_word declared_at ended name_at new_name_at number_at number_where word_at cannot_stand instr_at line_at reads reads_lines stage_after add_flag add_line add_op add_queue add_work at_end flags_at_line judge op_at_line open_actor open_body queue_at_line step work_at_line
returns-clause-new c = refl

pub returns-clause-of_a_queue : goal.returns-clause-of_a_queue
unfolding digits encode chars is_utf8 after_word declared_at ended name_at new_name_at number_at number_where word_at cannot_stand instr_at line_at reads reads_lines stage_after add_flag add_line add_op add_queue add_work at_end flags_at_line judge op_at_line open_actor open_body queue_at_line step work_at_line
returns-clause-of_a_queue c = refl

pub returns-clause-declared : goal.returns-clause-declared
unfolding digits encode chars is_utf8 after_word declared_at ended name_at new_name_at number_at number_where word_at cannot_stand instr_at line_at reads reads_lines stage_after add_flag add_line add_op add_queue add_work at_end flags_at_line judge op_at_line open_actor open_body queue_at_line step work_at_line
returns-clause-declared c = refl
