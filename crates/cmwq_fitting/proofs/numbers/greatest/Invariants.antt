use Rattle.std.proofs.Common.{◌≡◌, ◌≤◌, ◌<◌, ◌-◌, false, true}
use Rattle.cmwq_fitting.specs.NumberLimits.{number_fits}
use Rattle.cmwq_fitting.proofs.numbers.greatest.Given as goal

abbrev pub invariant-loop-fits : goal.invariant-loop-fits
invariant-loop-fits l = record {
  fits : number_fits l.gap.line l.gap.front.now l.fits ≡ true;
  fails : number_fits l.gap.line l.gap.front.now l.fails ≡ false;
  from : l.low ≤ l.fits;
  apart : l.fits < l.fails;
  small : l.fails ≤ 4294967296;
}

abbrev pub decreases-loop-fits : goal.decreases-loop-fits
decreases-loop-fits l = l.fails - l.fits
