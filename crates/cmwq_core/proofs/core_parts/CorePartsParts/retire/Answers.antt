use Rattle.std.proofs.Common.{◌≡◌, ◌≢◌, ◌+◌, ℕ, Option, Some, None, false, arith, sym, ap, subst, ◌∙◌}
use Rattle.std.specs.Vec.{vec_capacity}
use Rattle.cmwq_types.specs.Contents.{ScenarioContents}
use Rattle.cmwq_table.specs.Ready.{Loaded}
use Rattle.cmwq_table.specs.State.{running_at}
use Rattle.cmwq_idle.specs.Idle.{WorkersContents}
use Rattle.cmwq_running.specs.RunningContents.{RunningContents, state_of}
use Rattle.cmwq_core.specs.CoreLayout.{IsKept}
use Rattle.cmwq_core.specs.Moving.{IsGrown}
use Rattle.cmwq_core.proofs.CoverLemmas.{grown_by_head, grown_none, listed_in}
use Rattle.cmwq_core.proofs.KeptLemmas.{kept_retired}
use Rattle.cmwq_core.proofs.LayoutLemmas.{with_run}
use Rattle.cmwq_core.specs.Staff.{RunsOnWorker}
use Rattle.cmwq_core.proofs.core_parts.CorePartsParts.retire.Goals as goal
use Rattle.std.proofs.lemmas.Bool.Decides.{nat_tests}
use Rattle.cmwq_types.specs.declared.limits.TheConstants.{RESCUER}
use Rattle.cmwq_table.specs.Counts.{is_rescuer, ready_head}

employed : (worker : ℕ) → worker ≢ RESCUER → is_rescuer worker ≡ false
employed worker differs = grind (arith, nat_tests)

pub retire-requires-clause-head : goal.retire-requires-clause-head
retire-requires-clause-head c =
    subst (λ (S : ScenarioContents). ready_head S (state_of c.self.inside.running) c.args.r.pool ≡ Some c.args.w) (sym c.self.invariant.laid.sized.same)
    (subst (λ (m : Loaded). ready_head m.scenario m.state c.args.r.pool ≡ Some c.args.w) (sym c.self.view_is) c.requires.head)

pub invariant_of-self-in-Some : goal.invariant_of-self-in-Some
invariant_of-self-in-Some c =
    let inside = c.self.inside in
    let room = vec_capacity inside.flushes in
    let runs = subst (λ (m : Loaded). running_at m.state c.args.w ≡ Some c.args.r) (sym c.self.view_is) c.requires.running in
    let on : RunsOnWorker inside.running.running c.args.w c.args.r = record { runs = runs; employed = employed c.args.r.worker c.if-r-eq-RESCUER.false } in
    let further = subst (λ (o : Option ℕ). IsGrown inside.moving o c.with_some-self-inside.result) (c.listed_pool.ensures ∙ ap listed_in (sym c.in-Some.is ∙ c.work.ensures)) c.with_some-self-inside.ensures in
    let kept = kept_retired inside.queued inside.running inside.workers inside.next inside.pressed inside.moving inside.moving c.with_some-self-inside.result inside.max.items inside.depth.items room c.args.w c.args.r c.self.invariant on (grown_by_head inside.queued inside.running inside.workers inside.pressed inside.moving c.args.r.pool c.args.w c.self.invariant.covered (subst (λ (m : Loaded). ready_head m.scenario m.state c.args.r.pool ≡ Some c.args.w) (sym c.self.view_is) c.requires.head)) further in
    subst (λ (r : RunningContents). IsKept inside.queued r c.retire-2.new.self (inside.next + 1) inside.pressed c.with_some-self-inside.result inside.max.items inside.depth.items room) (sym c.retire.ensures)
    (subst (λ (k : WorkersContents). IsKept inside.queued (with_run inside.running c.args.w None) k (inside.next + 1) inside.pressed c.with_some-self-inside.result inside.max.items inside.depth.items room) (sym c.retire-2.ensures) kept)

pub invariant_of-self-in_default : goal.invariant_of-self-in_default
invariant_of-self-in_default c =
    let inside = c.self.inside in
    let room = vec_capacity inside.flushes in
    let runs = subst (λ (m : Loaded). running_at m.state c.args.w ≡ Some c.args.r) (sym c.self.view_is) c.requires.running in
    let on : RunsOnWorker inside.running.running c.args.w c.args.r = record { runs = runs; employed = employed c.args.r.worker c.if-r-eq-RESCUER.false } in
    let further = subst (λ (o : Option ℕ). IsGrown inside.moving o inside.moving) (ap listed_in (sym c.in_default.is ∙ c.work.ensures)) (grown_none inside.moving) in
    let kept = kept_retired inside.queued inside.running inside.workers inside.next inside.pressed inside.moving inside.moving inside.moving inside.max.items inside.depth.items room c.args.w c.args.r c.self.invariant on (grown_by_head inside.queued inside.running inside.workers inside.pressed inside.moving c.args.r.pool c.args.w c.self.invariant.covered (subst (λ (m : Loaded). ready_head m.scenario m.state c.args.r.pool ≡ Some c.args.w) (sym c.self.view_is) c.requires.head)) further in
    subst (λ (r : RunningContents). IsKept inside.queued r c.retire-2.new.self (inside.next + 1) inside.pressed inside.moving inside.max.items inside.depth.items room) (sym c.retire.ensures)
    (subst (λ (k : WorkersContents). IsKept inside.queued (with_run inside.running c.args.w None) k (inside.next + 1) inside.pressed inside.moving inside.max.items inside.depth.items room) (sym c.retire-2.ensures) kept)
