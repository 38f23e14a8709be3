-- The definitions compute it.
use lib.Utf8.{encode}
use Rattle.std.proofs.Common.{refl}
use Rattle.std.specs.Fmt.{digits}
use Rattle.std.specs.Str.{chars, is_utf8}
use Rattle.cmwq_grammar.specs.LineFields.{after_word, declared_at, ended, name_at, new_name_at, number_at, number_where, word_at}
use Rattle.cmwq_grammar.specs.Instructions.{cannot_stand, instr_at, line_at}
use Rattle.cmwq_grammar.specs.Meaning.{reads, reads_lines, stage_after}
use Rattle.cmwq_grammar.specs.LineReasons.{add_flag, add_line, add_op, add_queue, add_work, at_end, flags_at_line, judge, op_at_line, open_actor, open_body, queue_at_line, step, work_at_line}
use Rattle.cmwq_fitting.proofs.examples.limits_go_by_the_line.Goals as goal

pub returns-clause-cpus : goal.returns-clause-cpus
unfolding digits encode chars is_utf8 after_word declared_at ended name_at new_name_at number_at number_where word_at cannot_stand instr_at line_at reads reads_lines stage_after add_flag add_line add_op add_queue add_work at_end flags_at_line judge op_at_line open_actor open_body queue_at_line step work_at_line
returns-clause-cpus c = refl

pub returns-clause-many_cpus : goal.returns-clause-many_cpus
unfolding digits encode chars is_utf8 after_word declared_at ended name_at new_name_at number_at number_where word_at cannot_stand instr_at line_at reads reads_lines stage_after add_flag add_line add_op add_queue add_work at_end flags_at_line judge op_at_line open_actor open_body queue_at_line step work_at_line
returns-clause-many_cpus c = refl

pub returns-clause-workers : goal.returns-clause-workers
unfolding digits encode chars is_utf8 after_word declared_at ended name_at new_name_at number_at number_where word_at cannot_stand instr_at line_at reads reads_lines stage_after add_flag add_line add_op add_queue add_work at_end flags_at_line judge op_at_line open_actor open_body queue_at_line step work_at_line
returns-clause-workers c = refl

pub returns-clause-many_workers : goal.returns-clause-many_workers
unfolding digits encode chars is_utf8 after_word declared_at ended name_at new_name_at number_at number_where word_at cannot_stand instr_at line_at reads reads_lines stage_after add_flag add_line add_op add_queue add_work at_end flags_at_line judge op_at_line open_actor open_body queue_at_line step work_at_line
returns-clause-many_workers c = refl

pub returns-clause-burn : goal.returns-clause-burn
unfolding digits encode chars is_utf8 after_word declared_at ended name_at new_name_at number_at number_where word_at cannot_stand instr_at line_at reads reads_lines stage_after add_flag add_line add_op add_queue add_work at_end flags_at_line judge op_at_line open_actor open_body queue_at_line step work_at_line
returns-clause-burn c = refl

pub returns-clause-long_burn : goal.returns-clause-long_burn
unfolding digits encode chars is_utf8 after_word declared_at ended name_at new_name_at number_at number_where word_at cannot_stand instr_at line_at reads reads_lines stage_after add_flag add_line add_op add_queue add_work at_end flags_at_line judge op_at_line open_actor open_body queue_at_line step work_at_line
returns-clause-long_burn c = refl

pub returns-clause-cpu : goal.returns-clause-cpu
unfolding digits encode chars is_utf8 after_word declared_at ended name_at new_name_at number_at number_where word_at cannot_stand instr_at line_at reads reads_lines stage_after add_flag add_line add_op add_queue add_work at_end flags_at_line judge op_at_line open_actor open_body queue_at_line step work_at_line
returns-clause-cpu c = refl

pub returns-clause-no_such_cpu : goal.returns-clause-no_such_cpu
unfolding digits encode chars is_utf8 after_word declared_at ended name_at new_name_at number_at number_where word_at cannot_stand instr_at line_at reads reads_lines stage_after add_flag add_line add_op add_queue add_work at_end flags_at_line judge op_at_line open_actor open_body queue_at_line step work_at_line
returns-clause-no_such_cpu c = refl
