use Rattle.std.proofs.Common.{◌≡◌, ◌≤◌}
use Rattle.cmwq_types.specs.First.{count_below}
use Rattle.cmwq_remarks.specs.Notes.{is_bound_work}
use Rattle.cmwq_remarks.proofs.noted.bound_works.Given as goal

abbrev pub invariant-loop-w : goal.invariant-loop-w
invariant-loop-w l = record {
  counted : l.count ≡ count_below (is_bound_work l.scenario) l.w;
  few : l.count ≤ l.w;
}
