use Rattle.std.proofs.Common.{◌≡◌, ◌≤◌}
use Rattle.cmwq_types.specs.First.{count_below}
use Rattle.cmwq_remarks.specs.Notes.{is_work_of}
use Rattle.cmwq_remarks.proofs.noted.works_of.Given as goal

abbrev pub invariant-loop-w : goal.invariant-loop-w
invariant-loop-w l = record {
  counted : l.count ≡ count_below (is_work_of l.scenario l.queue) l.w;
  few : l.count ≤ l.w;
}
