-- The definitions compute the position and the time of the end.
use Rattle.std.proofs.Common.{◌≡◌, ℕ, ◌<◌, arith, refl, subst, sym}
use Rattle.cmwq_table.specs.Table.{run, table}
use Rattle.cmwq_explain.specs.Examples.{burning_work, its_run}
use Rattle.cmwq_explain.proofs.examples.run_ends_behind_its_last_position.Goals as goal

ends : (run burning_work its_run).time ≡ 1
unfolding table
ends = refl

pub returns-clause-position : goal.returns-clause-position
returns-clause-position c = λ past. absurd (omega (arith, past))

pub returns-clause-behind : goal.returns-clause-behind
returns-clause-behind c = omega arith

pub returns-clause-tick : goal.returns-clause-tick
returns-clause-tick c = λ past. absurd (omega (arith, past, ends))

pub returns-clause-later : goal.returns-clause-later
returns-clause-later c = subst (λ (time : ℕ). time < 2) (sym ends) (omega arith)
