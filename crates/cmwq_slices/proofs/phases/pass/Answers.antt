use Rattle.std.proofs.Common.{◌≡◌, ◌<◌, None, Option, arith, ap, length, ◌∙◌}
use Rattle.std.proofs.lemmas.List.{length-set}
use Rattle.cmwq_table.specs.Ready.{Loaded}
use Rattle.cmwq_table.specs.State.{running_at}
use Rattle.cmwq_table.specs.declared.state.Pending.{Pending}
use Rattle.cmwq_slices.specs.Slices.{doing, pending_doing, run_doing}
use Rattle.std.specs.Prelude.{slice_index_or}
use Rattle.cmwq_slices.specs.declared.phases.WorkPhases.{WorkPhases}
use Rattle.cmwq_slices.specs.declared.doing.Half.TheVariants as half
use Rattle.cmwq_slices.proofs.PassLemmas.{ended-done, ended-step, phases-step, then-done}
use Rattle.cmwq_slices.proofs.StayLemmas.{stays-ended, stays-step}
use Rattle.cmwq_slices.proofs.phases.pass.Goals as goal

pub loop-w-preserved : goal.loop-w-preserved
loop-w-preserved g c =
    let S = g.R.Reads.loaded c.args.machine.now in
    let s = g.R.Reads.state c.args.machine.now in
    let time = c.args.time in
    let all = c.loop-w.all in
    let w = c.loop-w.w in
    let x = c.then.result in
    let none : WorkPhases = record { running = None; pending = None } in
    let one = slice_index_or all w none in
    let runs : c.run_doing.result ≡ doing S s w half.Running = c.run_doing.ensures ∙ ap (λ (m : Loaded). run_doing m.scenario m.state w (running_at m.state w)) c.requires.heads in
    let pends : c.pending_doing.result ≡ doing S s w half.Pending = c.pending_doing.ensures ∙ ap (λ (p : Option Pending). pending_doing p) c.pending_of.ensures in
    let there : w < length all = omega (arith, c.loop-w-test.true, c.loop-w.auto.w-end, c.requires.works, c.loop-w.invariant.length) in
    record {
      length = length-set all w x ∙ c.loop-w.invariant.length;
      phases = phases-step time S s w all none there x (then-done time S s w one x c.run_doing.result c.pending_doing.result runs pends c.then.ensures) ∙ c.loop-w.invariant.phases;
      ended = ended-step time S s w all none there x c.loop-w.ended.items c.push_ended.new.ended.items (ended-done time S s w one c.loop-w.ended.items c.push_ended.new.ended.items c.run_doing.result c.pending_doing.result runs pends c.in_ok-push_ended.ensures) ∙ c.loop-w.invariant.ended;
    }

pub loop-w-preserved-then-are_done : goal.loop-w-preserved-then-are_done
loop-w-preserved-then-are_done g c =
    let S = g.R.Reads.loaded c.args.machine.now in
    let s = g.R.Reads.state c.args.machine.now in
    let time = c.args.time in
    let all = c.loop-w.all in
    let w = c.loop-w.w in
    let none : WorkPhases = record { running = None; pending = None } in
    let runs : c.run_doing.result ≡ doing S s w half.Running = c.run_doing.ensures ∙ ap (λ (m : Loaded). run_doing m.scenario m.state w (running_at m.state w)) c.requires.heads in
    let pends : c.pending_doing.result ≡ doing S s w half.Pending = c.pending_doing.ensures ∙ ap (λ (p : Option Pending). pending_doing p) c.pending_of.ensures in
    let there : w < length all = omega (arith, c.loop-w-test.true, c.loop-w.auto.w-end, c.requires.works, c.loop-w.invariant.length) in
    let done = c.are_done.ensures c.if-are_done.true in
    record {
      length = c.loop-w.invariant.length;
      phases = stays-step time S s w all none there (done.0 ∙ runs) (done.1 ∙ pends) ∙ c.loop-w.invariant.phases;
      ended = stays-ended time S s w all none there (done.0 ∙ runs) (done.1 ∙ pends) c.loop-w.ended.items ∙ c.loop-w.invariant.ended;
    }
