use Rattle.std.proofs.Common.{◌≤◌, length, ◌≡◌, Some}
use Rattle.std.specs.List.{slice_get}
use Rattle.cmwq_explore.specs.Searching.{AreClean, Entry, IsClosedTo, IsGrown, IsTop}
use Rattle.cmwq_explore.specs.Waiting.{AreWaiting}
use Rattle.cmwq_explore.proofs.exploring.handle_all.Given as goal

-- what the choices of the states so far lead to was seen
abbrev pub invariant-loop-place : goal.invariant-loop-place
invariant-loop-place g l = record {
  grown : IsGrown l.plan.value.scenario l.plan.value.before l.question l.seen;
  clean : AreClean l.seen;
  closed : IsClosedTo l.plan.value.scenario l.plan.value.before l.seen l.place;
  within : l.place ≤ length l.seen;
  waiting : AreWaiting l.plan.value l.seen l.waiting;
  top : (x : Entry) → slice_get l.seen l.place ≡ Some x → IsTop l.seen x.1.depth;
}
