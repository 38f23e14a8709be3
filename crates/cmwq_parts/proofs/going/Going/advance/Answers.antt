use Rattle.std.proofs.Common.{◌≡◌, Option, Some, sym, ap, ◌∙◌}
use Rattle.cmwq_types.specs.declared.reply.Mode.TheVariants.{Runnable}
use Rattle.cmwq_table.specs.Moves.{advance}
use Rattle.cmwq_table.specs.Ready.{Loaded}
use Rattle.cmwq_table.specs.State.{running_at}
use Rattle.cmwq_table.specs.declared.state.Running.{Running}
use Rattle.cmwq_parts.proofs.ReadyLemmas.{ready_head-rests}
use Rattle.cmwq_parts.proofs.going.Going.advance.Goals as goal
use Rattle.cmwq_parts.proofs.going.Going.advance.Goals.{After-carry_out}
use Rattle.cmwq_parts.proofs.going.Going.advance.Given.{Over}

pub carry_out-requires-clause-running : goal.carry_out-requires-clause-running
carry_out-requires-clause-running g c =
    let now = c.args.self.now in
    let runs : running_at now.state c.args.w ≡ Some c.in-Some.r = ap (λ (m : Loaded). running_at m.state c.args.w) (sym c.self.view_is) ∙ sym c.running.ensures ∙ c.in-Some.is in
    runs ∙ ap Some (ready_head-rests now.scenario now.state c.args.pool c.args.w c.in-Some.r c.requires.head runs)

rests : (g : Over) (c : After-carry_out g) → running_at c.args.self.now.state c.args.w ≡ Some (record c.in-Some.r { left = 0; mode = Runnable })
rests g c =
    let now = c.args.self.now in
    let runs : running_at now.state c.args.w ≡ Some c.in-Some.r = ap (λ (m : Loaded). running_at m.state c.args.w) (sym c.self.view_is) ∙ sym c.running.ensures ∙ c.in-Some.is in
    runs ∙ ap Some (ready_head-rests now.scenario now.state c.args.pool c.args.w c.in-Some.r c.requires.head runs)

pub returns-in-Some-clause-state : goal.returns-in-Some-clause-state
returns-in-Some-clause-state g c =
    let now = c.args.self.now in
    c.carry_out.ensures.state ∙ ap (λ (o : Option Running). record now { state = (advance now.scenario now.state c.args.w o).0 }) (sym (rests g c))

pub returns-in-Some-clause-event : goal.returns-in-Some-clause-event
returns-in-Some-clause-event g c =
    let now = c.args.self.now in
    c.carry_out.ensures.event ∙ ap (λ (o : Option Running). (advance now.scenario now.state c.args.w o).1) (sym (rests g c))
