-- Which views of a machine's state are equal, by their contents.
use Rattle.std.specs.Prelude.{Bool, ◌&&◌, ◌==◌, nat_eq}
use mathlib.Core.Bool.{beq}
use Rattle.std.specs.Cmp.Lexicographic.{pointwise}
use Rattle.cmwq_types.specs.declared.instr.WorkId.{WorkId}
use Rattle.cmwq_types.specs.contracts.instr.WorkIdPartialEq.TheImpl as work_id
use Rattle.cmwq_table.specs.View.{ViewContents}
use Rattle.cmwq_table.specs.declared.state.Pending.{Pending}
use Rattle.cmwq_table.specs.declared.state.Running.{Running}
use Rattle.cmwq_table.specs.contracts.state.FlushTargetPartialEq.TheImpl as flush
use Rattle.cmwq_table.specs.contracts.state.PendingPartialEq.TheImpl as pending
use Rattle.cmwq_table.specs.contracts.state.RunningPartialEq.TheImpl as running
use Rattle.cmwq_table.specs.contracts.view.IdleWorkerPartialEq.TheImpl as idle

abbrev pub pending_eq : WorkId × Pending → WorkId × Pending → Bool
pending_eq x y = work_id.ghosts.eq x.0 y.0 && pending.ghosts.eq x.1 y.1

abbrev pub running_eq : WorkId × Running → WorkId × Running → Bool
running_eq x y = work_id.ghosts.eq x.0 y.0 && running.ghosts.eq x.1 y.1

-- what is known of each work is equal
abbrev pub works_eq : ViewContents → ViewContents → Bool
works_eq x y = pointwise pending_eq x.pending y.pending && (pointwise running_eq x.running y.running && pointwise nat_eq x.depth y.depth)

-- the clock and what holds for the whole machine are equal
abbrev pub machine_eq : ViewContents → ViewContents → Bool
machine_eq x y =
    (x.time == y.time)
    && ((x.next == y.next)
    && ((x.spent == y.spent)
    && (beq x.frozen y.frozen && beq x.pressed y.pressed)))

abbrev pub view_eq : ViewContents → ViewContents → Bool
view_eq x y =
    machine_eq x y
    && (pointwise nat_eq x.max y.max
    && (works_eq x y
    && (pointwise idle.ghosts.eq x.idle y.idle
    && (pointwise nat_eq x.made y.made && pointwise flush.ghosts.eq x.flushes y.flushes))))
