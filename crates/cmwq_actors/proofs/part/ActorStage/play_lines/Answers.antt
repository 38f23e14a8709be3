use Rattle.std.proofs.Common.{rules}
use Rattle.cmwq_actors.proofs.IssueLemmas.{exhausted_by, one_more_fits, stop_ends}
use Rattle.cmwq_actors.proofs.part.ActorStage.play_lines.Goals as goal

pub overflow_add-calls : goal.overflow_add-calls
overflow_add-calls g c =
    let turn = rw c.in-Ok.is at c.issue-back.ensures.turn in
    let entered = rw c.in-Ok.is at c.issue-back.ensures.entered in
    let fits = one_more_fits _ _ _ _ _ turn entered in
    let counted = c.loop-instr.invariant.counted in
    let small = c.requires.small in
    search rules

pub returns-in-Err-clause-ended : goal.returns-in-Err-clause-ended
returns-in-Err-clause-ended g c =
    let full = rw c.in-Err.is at c.issue-back.ensures.full in
    let same = rw c.in-Err.is at c.issue-back.ensures.same in
    rw c.from.ensures (stop_ends _ _ _ _ _ c.in-Err.why c.loop-instr.invariant.issued full same)

pub returns-in-Err-clause-exhausted : goal.returns-in-Err-clause-exhausted
returns-in-Err-clause-exhausted g c =
    let told = rw c.in-Err.is at c.issue-back.ensures.exhausted in
    rw c.from.ensures (exhausted_by _ c.in-Err.why told)
