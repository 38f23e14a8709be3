-- The definitions compute what reading gives.
use lib.Utf8.{encode}
use Rattle.std.proofs.Common.{refl}
use Rattle.std.specs.Fmt.{digits}
use Rattle.std.specs.Str.{chars, is_utf8}
use Rattle.cmwq_grammar.specs.LineFields.{after_word, declared_at, ended, name_at, new_name_at, number_at, number_where, word_at}
use Rattle.cmwq_grammar.specs.Instructions.{cannot_stand, instr_at, line_at}
use Rattle.cmwq_grammar.specs.Meaning.{reads, reads_lines, stage_after}
use Rattle.cmwq_grammar.specs.LineReasons.{add_flag, add_line, add_op, add_queue, add_work, at_end, flags_at_line, judge, op_at_line, open_actor, open_body, queue_at_line, step, work_at_line}
use Rattle.cmwq_grammar.proofs.examples.reasons_in_actors.Goals as goal

pub returns-clause-duplicate : goal.returns-clause-duplicate
unfolding digits encode chars is_utf8 after_word declared_at ended name_at new_name_at number_at number_where word_at cannot_stand instr_at line_at reads reads_lines stage_after add_flag add_line add_op add_queue add_work at_end flags_at_line judge op_at_line open_actor open_body queue_at_line step work_at_line
returns-clause-duplicate c = refl

pub returns-clause-no_instruction : goal.returns-clause-no_instruction
unfolding digits encode chars is_utf8 after_word declared_at ended name_at new_name_at number_at number_where word_at cannot_stand instr_at line_at reads reads_lines stage_after add_flag add_line add_op add_queue add_work at_end flags_at_line judge op_at_line open_actor open_body queue_at_line step work_at_line
returns-clause-no_instruction c = refl

pub returns-clause-body : goal.returns-clause-body
unfolding digits encode chars is_utf8 after_word declared_at ended name_at new_name_at number_at number_where word_at cannot_stand instr_at line_at reads reads_lines stage_after add_flag add_line add_op add_queue add_work at_end flags_at_line judge op_at_line open_actor open_body queue_at_line step work_at_line
returns-clause-body c = refl

pub returns-clause-unknown : goal.returns-clause-unknown
unfolding digits encode chars is_utf8 after_word declared_at ended name_at new_name_at number_at number_where word_at cannot_stand instr_at line_at reads reads_lines stage_after add_flag add_line add_op add_queue add_work at_end flags_at_line judge op_at_line open_actor open_body queue_at_line step work_at_line
returns-clause-unknown c = refl

pub returns-clause-disable : goal.returns-clause-disable
unfolding digits encode chars is_utf8 after_word declared_at ended name_at new_name_at number_at number_where word_at cannot_stand instr_at line_at reads reads_lines stage_after add_flag add_line add_op add_queue add_work at_end flags_at_line judge op_at_line open_actor open_body queue_at_line step work_at_line
returns-clause-disable c = refl

pub returns-clause-enable : goal.returns-clause-enable
unfolding digits encode chars is_utf8 after_word declared_at ended name_at new_name_at number_at number_where word_at cannot_stand instr_at line_at reads reads_lines stage_after add_flag add_line add_op add_queue add_work at_end flags_at_line judge op_at_line open_actor open_body queue_at_line step work_at_line
returns-clause-enable c = refl

pub returns-clause-pressure : goal.returns-clause-pressure
unfolding digits encode chars is_utf8 after_word declared_at ended name_at new_name_at number_at number_where word_at cannot_stand instr_at line_at reads reads_lines stage_after add_flag add_line add_op add_queue add_work at_end flags_at_line judge op_at_line open_actor open_body queue_at_line step work_at_line
returns-clause-pressure c = refl

pub returns-clause-relief : goal.returns-clause-relief
unfolding digits encode chars is_utf8 after_word declared_at ended name_at new_name_at number_at number_where word_at cannot_stand instr_at line_at reads reads_lines stage_after add_flag add_line add_op add_queue add_work at_end flags_at_line judge op_at_line open_actor open_body queue_at_line step work_at_line
returns-clause-relief c = refl

pub returns-clause-unknown_queue : goal.returns-clause-unknown_queue
unfolding digits encode chars is_utf8 after_word declared_at ended name_at new_name_at number_at number_where word_at cannot_stand instr_at line_at reads reads_lines stage_after add_flag add_line add_op add_queue add_work at_end flags_at_line judge op_at_line open_actor open_body queue_at_line step work_at_line
returns-clause-unknown_queue c = refl

pub returns-clause-cpu : goal.returns-clause-cpu
unfolding digits encode chars is_utf8 after_word declared_at ended name_at new_name_at number_at number_where word_at cannot_stand instr_at line_at reads reads_lines stage_after add_flag add_line add_op add_queue add_work at_end flags_at_line judge op_at_line open_actor open_body queue_at_line step work_at_line
returns-clause-cpu c = refl

pub returns-clause-ticks : goal.returns-clause-ticks
unfolding digits encode chars is_utf8 after_word declared_at ended name_at new_name_at number_at number_where word_at cannot_stand instr_at line_at reads reads_lines stage_after add_flag add_line add_op add_queue add_work at_end flags_at_line judge op_at_line open_actor open_body queue_at_line step work_at_line
returns-clause-ticks c = refl

pub returns-clause-no_ticks : goal.returns-clause-no_ticks
unfolding digits encode chars is_utf8 after_word declared_at ended name_at new_name_at number_at number_where word_at cannot_stand instr_at line_at reads reads_lines stage_after add_flag add_line add_op add_queue add_work at_end flags_at_line judge op_at_line open_actor open_body queue_at_line step work_at_line
returns-clause-no_ticks c = refl

pub returns-clause-pool : goal.returns-clause-pool
unfolding digits encode chars is_utf8 after_word declared_at ended name_at new_name_at number_at number_where word_at cannot_stand instr_at line_at reads reads_lines stage_after add_flag add_line add_op add_queue add_work at_end flags_at_line judge op_at_line open_actor open_body queue_at_line step work_at_line
returns-clause-pool c = refl

pub returns-clause-flush : goal.returns-clause-flush
unfolding digits encode chars is_utf8 after_word declared_at ended name_at new_name_at number_at number_where word_at cannot_stand instr_at line_at reads reads_lines stage_after add_flag add_line add_op add_queue add_work at_end flags_at_line judge op_at_line open_actor open_body queue_at_line step work_at_line
returns-clause-flush c = refl

pub returns-clause-max : goal.returns-clause-max
unfolding digits encode chars is_utf8 after_word declared_at ended name_at new_name_at number_at number_where word_at cannot_stand instr_at line_at reads reads_lines stage_after add_flag add_line add_op add_queue add_work at_end flags_at_line judge op_at_line open_actor open_body queue_at_line step work_at_line
returns-clause-max c = refl

pub returns-clause-extra : goal.returns-clause-extra
unfolding digits encode chars is_utf8 after_word declared_at ended name_at new_name_at number_at number_where word_at cannot_stand instr_at line_at reads reads_lines stage_after add_flag add_line add_op add_queue add_work at_end flags_at_line judge op_at_line open_actor open_body queue_at_line step work_at_line
returns-clause-extra c = refl

pub returns-clause-no_times : goal.returns-clause-no_times
unfolding digits encode chars is_utf8 after_word declared_at ended name_at new_name_at number_at number_where word_at cannot_stand instr_at line_at reads reads_lines stage_after add_flag add_line add_op add_queue add_work at_end flags_at_line judge op_at_line open_actor open_body queue_at_line step work_at_line
returns-clause-no_times c = refl

pub returns-clause-times_0 : goal.returns-clause-times_0
unfolding digits encode chars is_utf8 after_word declared_at ended name_at new_name_at number_at number_where word_at cannot_stand instr_at line_at reads reads_lines stage_after add_flag add_line add_op add_queue add_work at_end flags_at_line judge op_at_line open_actor open_body queue_at_line step work_at_line
returns-clause-times_0 c = refl

pub returns-clause-too_many_times : goal.returns-clause-too_many_times
unfolding digits encode chars is_utf8 after_word declared_at ended name_at new_name_at number_at number_where word_at cannot_stand instr_at line_at reads reads_lines stage_after add_flag add_line add_op add_queue add_work at_end flags_at_line judge op_at_line open_actor open_body queue_at_line step work_at_line
returns-clause-too_many_times c = refl

pub returns-clause-bad_times : goal.returns-clause-bad_times
unfolding digits encode chars is_utf8 after_word declared_at ended name_at new_name_at number_at number_where word_at cannot_stand instr_at line_at reads reads_lines stage_after add_flag add_line add_op add_queue add_work at_end flags_at_line judge op_at_line open_actor open_body queue_at_line step work_at_line
returns-clause-bad_times c = refl

pub returns-clause-extra_times : goal.returns-clause-extra_times
unfolding digits encode chars is_utf8 after_word declared_at ended name_at new_name_at number_at number_where word_at cannot_stand instr_at line_at reads reads_lines stage_after add_flag add_line add_op add_queue add_work at_end flags_at_line judge op_at_line open_actor open_body queue_at_line step work_at_line
returns-clause-extra_times c = refl
