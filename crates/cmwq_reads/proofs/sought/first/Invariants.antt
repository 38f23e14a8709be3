use Rattle.std.proofs.Common.{◌≡◌, ◌<◌, IfSome}
use Rattle.cmwq_types.specs.First.{first_below}
use Rattle.cmwq_reads.specs.Sought.{is_sought_before, is_sought}
use Rattle.cmwq_reads.proofs.sought.first.Given as goal

abbrev pub invariant-loop-w : goal.invariant-loop-w
invariant-loop-w g l = record {
  first : l.first ≡ first_below (is_sought_before (g.R.Reads.state l.machine) l.sought) (is_sought (g.R.Reads.loaded l.machine) (g.R.Reads.state l.machine) l.sought) l.w;
  in_range : IfSome l.first (λ v. v < l.w);
}
