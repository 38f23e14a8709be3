use Rattle.std.proofs.Common.{◌≡◌, length, map, take}
use Rattle.cmwq_debug.specs.Breaks.{seen}
use Rattle.cmwq_debug.specs.declared.breaks.TheConstants.{MAX_BREAKS}
use Rattle.cmwq_debug.proofs.breaks.sights.Given as goal

-- those up to here are what the breaks see
abbrev pub invariant-loop-place : goal.invariant-loop-place
invariant-loop-place g l = record {
  long : length l.sights ≡ MAX_BREAKS;
  done : take l.place l.sights ≡ map (seen (g.M.Reads.state l.machine)) (take l.place l.breaks);
}
