use Rattle.std.proofs.Common.{Ok, ◌≤◌, ap, arith, length, refl, subst, sym}
use Rattle.std.proofs.lemmas.Option.{slice_get_within}
use Rattle.cmwq_explore.proofs.SearchLemmas.{ahead_first}
use Rattle.cmwq_explore.specs.Searching.{Handles}
use Rattle.cmwq_explore.specs.Waiting.{AreWaiting}
use Rattle.cmwq_explore.proofs.exploring.handle_all.Goals as goal

pub loop-place-init : goal.loop-place-init
loop-place-init g c =
    let first = ahead_first c.args.plan.now.value c.args.question c.args.seen.now c.requires.begins in
    record { grown = first.0; clean = first.1; closed = first.2; within = omega arith; waiting = c.requires.waiting; top = first.3 }

pub handle-requires-clause-ahead : goal.handle-requires-clause-ahead
handle-requires-clause-ahead g c = record {
  grown = c.loop-place.invariant.grown;
  clean = c.loop-place.invariant.clean;
  closed = c.loop-place.invariant.closed;
  top = c.loop-place.invariant.top (c.in-Some.ensures.0, c.in-Some.mark) c.in-Some.ensures.1;
  entry = (c.in-Some.ensures.0, c.in-Some.mark);
  there = c.in-Some.ensures.1;
  deep = refl;
}

pub loop-place-preserved : goal.loop-place-preserved
loop-place-preserved g c =
    let done = subst (Handles c.args.plan.now.value c.args.question c.loop-place.seen c.handle.new.seen c.loop-place.place c.in-Some.mark.depth) c.in-Going.is c.in_ok-handle.ensures.handles in
    let inside = slice_get_within c.loop-place.seen c.loop-place.place (c.in-Some.ensures.0, c.in-Some.mark) c.in-Some.ensures.1 in
    let longer : length c.loop-place.seen ≤ length c.handle.new.seen = done.4 in
    record {
      grown = done.0;
      clean = done.1;
      closed = done.2;
      within = omega (arith, inside, longer);
      waiting = c.in_ok-handle.ensures.waiting (ap Ok c.in-Going.is);
      top = done.3;
    }
