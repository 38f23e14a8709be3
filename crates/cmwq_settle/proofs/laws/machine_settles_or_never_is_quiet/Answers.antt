use Rattle.cmwq_table.specs.Table.{run}
use Rattle.cmwq_settle.specs.Quiet.{nexts_left}
use Rattle.cmwq_settle.proofs.NextLemmas.{settles-once, settles-or_never, settles-or_not}
use Rattle.cmwq_settle.proofs.laws.machine_settles_or_never_is_quiet.Goals as goal

pub returns : goal.returns
returns c = record {
  either = λ S instrs. settles-or_not S (run S instrs) (nexts_left S instrs);
  not_both = λ S instrs n settles never. settles-or_never S (run S instrs) (nexts_left S instrs) n settles never;
  one = λ S instrs m n first second. settles-once S (run S instrs) (nexts_left S instrs) m n first second;
}
