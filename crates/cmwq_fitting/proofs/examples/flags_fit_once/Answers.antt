-- The definitions compute it.
use lib.Utf8.{encode}
use Rattle.std.proofs.Common.{refl}
use Rattle.std.specs.Fmt.{digits}
use Rattle.std.specs.Str.{chars, is_utf8}
use Rattle.cmwq_grammar.specs.LineFields.{after_word, declared_at, ended, name_at, new_name_at, number_at, number_where, word_at}
use Rattle.cmwq_grammar.specs.Instructions.{cannot_stand, instr_at, line_at}
use Rattle.cmwq_grammar.specs.Meaning.{reads, reads_lines, stage_after}
use Rattle.cmwq_grammar.specs.LineReasons.{add_flag, add_line, add_op, add_queue, add_work, at_end, flags_at_line, judge, op_at_line, open_actor, open_body, queue_at_line, step, work_at_line}
use Rattle.cmwq_fitting.proofs.examples.flags_fit_once.Goals as goal

pub returns-clause-none_yet : goal.returns-clause-none_yet
unfolding digits encode chars is_utf8 after_word declared_at ended name_at new_name_at number_at number_where word_at cannot_stand instr_at line_at reads reads_lines stage_after add_flag add_line add_op add_queue add_work at_end flags_at_line judge op_at_line open_actor open_body queue_at_line step work_at_line
returns-clause-none_yet c = refl

pub returns-clause-two_given : goal.returns-clause-two_given
unfolding digits encode chars is_utf8 after_word declared_at ended name_at new_name_at number_at number_where word_at cannot_stand instr_at line_at reads reads_lines stage_after add_flag add_line add_op add_queue add_work at_end flags_at_line judge op_at_line open_actor open_body queue_at_line step work_at_line
returns-clause-two_given c = refl

pub returns-clause-ordered : goal.returns-clause-ordered
unfolding digits encode chars is_utf8 after_word declared_at ended name_at new_name_at number_at number_where word_at cannot_stand instr_at line_at reads reads_lines stage_after add_flag add_line add_op add_queue add_work at_end flags_at_line judge op_at_line open_actor open_body queue_at_line step work_at_line
returns-clause-ordered c = refl

pub returns-clause-wrong_already : goal.returns-clause-wrong_already
unfolding digits encode chars is_utf8 after_word declared_at ended name_at new_name_at number_at number_where word_at cannot_stand instr_at line_at reads reads_lines stage_after add_flag add_line add_op add_queue add_work at_end flags_at_line judge op_at_line open_actor open_body queue_at_line step work_at_line
returns-clause-wrong_already c = refl

pub returns-clause-end : goal.returns-clause-end
unfolding digits encode chars is_utf8 after_word declared_at ended name_at new_name_at number_at number_where word_at cannot_stand instr_at line_at reads reads_lines stage_after add_flag add_line add_op add_queue add_work at_end flags_at_line judge op_at_line open_actor open_body queue_at_line step work_at_line
returns-clause-end c = refl

pub returns-clause-no_end : goal.returns-clause-no_end
unfolding digits encode chars is_utf8 after_word declared_at ended name_at new_name_at number_at number_where word_at cannot_stand instr_at line_at reads reads_lines stage_after add_flag add_line add_op add_queue add_work at_end flags_at_line judge op_at_line open_actor open_body queue_at_line step work_at_line
returns-clause-no_end c = refl
