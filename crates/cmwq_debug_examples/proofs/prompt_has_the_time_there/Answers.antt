-- The definitions compute the lines.
use Rattle.std.proofs.Common.{refl}
use Rattle.std.specs.Fmt.{digits}
use Rattle.cmwq_grammar.specs.LineFields.{ended, number_at, number_where, word_at}
use Rattle.cmwq_table.specs.Events.{reply_line}
use Rattle.cmwq_table.specs.Table.{table}
use Rattle.cmwq_debug_lines.specs.Prompt.{line_told}
use Rattle.cmwq_debug_lines.specs.Talk.{line_said}
use Rattle.cmwq_debug_examples.proofs.prompt_has_the_time_there.Goals as goal

pub returns : goal.returns
unfolding table digits reply_line number_where number_at word_at ended line_said line_told
returns c = refl
