-- The definitions compute the lines.
use Rattle.std.proofs.Common.{refl}
use Rattle.std.specs.Fmt.{digits}
use Rattle.cmwq_table.specs.Table.{table}
use Rattle.cmwq_debug_lines.specs.Prompt.{line_told}
use Rattle.cmwq_debug_lines.specs.Talk.{line_said}
use Rattle.cmwq_debug_examples.proofs.quit_ends_the_session.Goals as goal

pub returns : goal.returns
unfolding table digits line_said line_told
returns c = refl
