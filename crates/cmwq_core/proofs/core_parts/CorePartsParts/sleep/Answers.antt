use Rattle.std.proofs.Common.{◌≡◌, ◌<◌, ◌+◌, Option, Some, IfSome, arith, refl, sym, subst}
use Rattle.std.specs.Vec.{vec_capacity}
use Rattle.cmwq_types.specs.Contents.{ScenarioContents}
use Rattle.cmwq_types.specs.declared.reply.Mode.TheVariants.{Asleep}
use Rattle.cmwq_table.specs.Counts.{ready_head}
use Rattle.cmwq_table.specs.Ready.{Loaded}
use Rattle.cmwq_table.specs.State.{running_at}
use Rattle.cmwq_table.specs.declared.state.Running.{Running}
use Rattle.cmwq_running.specs.RunningContents.{RunningContents, state_of}
use Rattle.cmwq_core.specs.CoreLayout.{IsKept}
use Rattle.cmwq_core.proofs.CoverLemmas.{grown_by_head}
use Rattle.cmwq_core.proofs.KeptLemmas.{kept_running}
use Rattle.cmwq_core.proofs.core_parts.CorePartsParts.sleep.Goals as goal

pub sleep-requires-clause-head : goal.sleep-requires-clause-head
sleep-requires-clause-head c =
    subst (λ (S : ScenarioContents). ready_head S (state_of c.self.inside.running) c.args.r.pool ≡ Some c.args.w) (sym c.self.invariant.laid.sized.same)
    (subst (λ (m : Loaded). ready_head m.scenario m.state c.args.r.pool ≡ Some c.args.w) (sym c.self.view_is) c.requires.head)

pub invariant_of-self : goal.invariant_of-self
invariant_of-self c =
    let inside = c.self.inside in
    let room = vec_capacity inside.flushes in
    let runs = subst (λ (m : Loaded). running_at m.state c.args.w ≡ Some c.args.r) (sym c.self.view_is) c.requires.running in
    let low = subst (λ (o : Option Running). IfSome o (λ r. r.stamp < inside.next)) runs (c.self.invariant.laid.before.run c.args.w) in
    subst (λ (r : RunningContents). IsKept inside.queued r inside.workers inside.next inside.pressed inside.moving inside.max.items inside.depth.items room) (sym c.sleep.ensures)
    (kept_running inside.queued inside.running inside.workers inside.next inside.next inside.pressed inside.moving inside.moving inside.max.items inside.depth.items room c.args.w c.args.r (record c.args.r { pc = c.args.r.pc + 1; mode = Asleep c.args.until }) c.self.invariant (omega arith) runs refl refl low (grown_by_head inside.queued inside.running inside.workers inside.pressed inside.moving c.args.r.pool c.args.w c.self.invariant.covered (subst (λ (m : Loaded). ready_head m.scenario m.state c.args.r.pool ≡ Some c.args.w) (sym c.self.view_is) c.requires.head)))
