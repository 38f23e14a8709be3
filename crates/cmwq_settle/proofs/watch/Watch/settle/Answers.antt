use Rattle.std.proofs.Common.{ap, ◌∙◌}
use Rattle.cmwq_types.specs.declared.instr.Instr.TheVariants.{Next}
use Rattle.cmwq_types.specs.declared.reply.Reply.{Reply}
use Rattle.cmwq_table.specs.State.{State}
use Rattle.cmwq_settle.proofs.NextLemmas.{state-more, unquiet-more}
use Rattle.cmwq_settle.proofs.watch.Watch.settle.Goals as goal

pub loop-turn-preserved : goal.loop-turn-preserved
loop-turn-preserved g c =
    let loaded = g.M.Reads.loaded in
    let state = g.M.Reads.state in
    let S = loaded c.args.self.now.machine in
    let s = state c.args.self.now.machine in
    let looked = c.is_quiet.new.self.machine in
    let before = c.loop-turn.invariant in
    let same = c.is_quiet.ensures.same in
    record {
      loaded = c.exec.ensures.scenario ∙ ap loaded same ∙ before.loaded;
      state = state-more S (loaded looked) s (state looked) (state c.exec.new.self) Next c.loop-turn.turn (ap loaded same ∙ before.loaded) (ap state same ∙ before.state) (ap (λ (after : State × Reply). after.0) c.exec.ensures.exact);
      unquiet = unquiet-more S (loaded c.loop-turn.self.machine) s (state c.loop-turn.self.machine) c.loop-turn.turn before.loaded before.state c.if-is_quiet.ensures.quiet before.unquiet;
    }
