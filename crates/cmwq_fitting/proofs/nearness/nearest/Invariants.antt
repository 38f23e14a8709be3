use Rattle.std.proofs.Common.{◌≡◌, ◌<◌, true}
use Rattle.std.specs.Prelude.{IfSome, length, map}
use Rattle.cmwq_types.specs.First.{by_least, first_below}
use Rattle.cmwq_fitting.specs.Nearness.{apart_from}
use Rattle.cmwq_fitting.proofs.nearness.nearest.Given as goal

-- the nearest of those so far
abbrev pub invariant-loop-k : goal.invariant-loop-k
invariant-loop-k l = record {
  nearest : l.nearest ≡ first_below (by_least (apart_from (map (λ word. word.now) l.words) l.word)) (λ k. true) l.k;
  in_range : IfSome l.nearest (λ k. k < length l.words);
}
