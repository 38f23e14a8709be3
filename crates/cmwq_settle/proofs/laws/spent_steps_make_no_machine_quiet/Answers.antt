use Rattle.cmwq_settle.proofs.NextLemmas.{never-within, settles-within}
use Rattle.cmwq_settle.proofs.laws.spent_steps_make_no_machine_quiet.Goals as goal

pub returns : goal.returns
returns c = record {
  least = λ S instrs n valid few quiet. settles-within S instrs n valid few quiet;
  never = λ S instrs n valid few never. never-within S instrs n valid few never;
}
