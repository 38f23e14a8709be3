use Rattle.std.proofs.Common.{◌∙◌, sym}
use Rattle.cmwq_blame.proofs.PassingLemmas.{clock-lets, other-lets}
use Rattle.cmwq_blame.proofs.passing.lets_pass.Goals as goal

pub returns-then-is_clock : goal.returns-then-is_clock
returns-then-is_clock g c =
    let S = g.M.Reads.loaded c.args.machine.now in
    let s = g.M.Reads.state c.args.machine.now in
    c.can_pass.ensures ∙ sym (clock-lets S s c.args.instr (sym c.is_clock.ensures ∙ c.if-is_clock.true))

pub returns-else-is_clock : goal.returns-else-is_clock
returns-else-is_clock g c =
    let S = g.M.Reads.loaded c.args.machine.now in
    let s = g.M.Reads.state c.args.machine.now in
    c.if-is_clock.false ∙ sym (other-lets S s c.args.instr c.scenario-scenario.ensures.setting (sym c.is_clock.ensures ∙ c.if-is_clock.false))
