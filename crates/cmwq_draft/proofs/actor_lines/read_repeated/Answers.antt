use Rattle.cmwq_grammar.specs.Instructions.{line_times}
use Rattle.cmwq_grammar.specs.LineFields.{number_within}
use Rattle.cmwq_types.specs.declared.limits.TheConstants.{MAX_TIMES}
use Rattle.cmwq_scan.specs.Words.{words_left}
use Rattle.cmwq_draft.proofs.LastLemmas.{told_last}
use Rattle.cmwq_draft.proofs.actor_lines.read_repeated.Goals as goal

pub returns : goal.returns
returns c instr = told_last (line_times instr) c.take_last_number_within.result (number_within 1 MAX_TIMES (words_left c.args.rest.now)) c.take_last_number_within.ensures.number
