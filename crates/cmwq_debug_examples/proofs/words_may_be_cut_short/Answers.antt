-- The definitions compute the lines.
use Rattle.std.proofs.Common.{refl}
use Rattle.std.specs.Fmt.{digits}
use Rattle.cmwq_grammar.specs.LineFields.{ended, number_at, number_where, word_at}
use Rattle.cmwq_table.specs.Table.{table}
use Rattle.cmwq_debug_examples.proofs.words_may_be_cut_short.Goals as goal

pub returns : goal.returns
unfolding table digits number_where number_at word_at ended
returns c = refl
