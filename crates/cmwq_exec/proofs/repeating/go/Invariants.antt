use Rattle.std.proofs.Common.{◌≡◌, ℕ, ◌-◌, ◌<◌, true}
use Rattle.std.specs.Prelude.{min}
use Rattle.cmwq_types.specs.declared.instr.Instr.TheVariants.{Next}
use Rattle.cmwq_table.specs.Events.{is_silent}
use Rattle.cmwq_table.specs.Ready.{IsKept}
use Rattle.cmwq_table.specs.Repeats.{after_times, reply_behind}
use Rattle.cmwq_exec.proofs.repeating.go.Given as goal

-- so far `next` was carried out so often, and said nothing; it can be so often more as is asked for and spent
abbrev pub invariant-loop-left : goal.invariant-loop-left
invariant-loop-left g l = record {
  few : l.count < l.most;
  left : l.left ≡ min (l.most - l.count) (l.going.scenario.steps - l.going.state.spent);
  state : l.going ≡ record l.fn.going { state = after_times l.fn.going.scenario l.fn.going.state Next l.count };
  kept : IsKept l.going;
  silent : (earlier : ℕ) → earlier < l.count → is_silent (reply_behind l.fn.going.scenario l.fn.going.state Next earlier) ≡ true;
}

abbrev pub decreases-loop-left : goal.decreases-loop-left
decreases-loop-left g l = l.most - l.count
