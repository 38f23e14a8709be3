use Rattle.std.proofs.Common.{◌≡◌, ◌≤◌, count_by, take}
use Rattle.cmwq_explore.specs.Searching.{Entry, is_counted}
use Rattle.cmwq_explore.proofs.seen.Seen.count.Given as goal

-- of the states so far
abbrev pub invariant-loop-place : goal.invariant-loop-place
invariant-loop-place l = record {
  count : l.count ≡ count_by (λ (x : Entry). is_counted l.counted x.1) (take l.place l.self);
  few : l.count ≤ l.place;
}
