use Rattle.std.proofs.Common.{◌≡◌, ◌⊎◌, ◌∙◌, ◌+◌, ◌<◌, ap, arith, inl, inr, length, rules}
use Rattle.std.proofs.lemmas.List.Elements.{All-contains, All-weaker}
use Rattle.std.specs.List.{Contains}
use Rattle.cmwq_types.specs.declared.instr.Instr.{Instr}
use Rattle.cmwq_table.specs.Table.{table}
use Rattle.cmwq_debug.specs.Replaying.{IsThere}
use Rattle.cmwq_debug.specs.declared.checkpoints.Checkpoint.{Checkpoint}
use Rattle.cmwq_debug.proofs.MovingLemmas.{reached}
use Rattle.cmwq_debug.proofs.replay.Replay.advance.Goals as goal

pub invariant_of-self : goal.invariant_of-self
invariant_of-self g c =
    let loaded = g.M.Reads.loaded in
    let state = g.M.Reads.state in
    let inside = c.self.inside in
    let S = inside.scenario.value in
    let I = inside.instrs.items in
    let k = inside.position in
    let machine = c.exec-reply.new.self in
    let held = inside.checkpoints.checkpoints in
    let there = c.self.invariant.there in
    let less : k < length I = search rules in
    let come : IsThere loaded state S I (k + 1) machine = record {
      scenario = c.exec-reply.ensures.scenario ∙ there.scenario;
      reached = reached S (loaded inside.machine) I k (state inside.machine) (state machine) c.exec-reply.result c.index.result.now less there.scenario there.reached
          (c.exec-reply.ensures.exact ∙ ap (λ (instr : Instr). table (loaded inside.machine) (state inside.machine) instr) c.index.ensures);
      within = omega (arith, less);
    } in
    let stands : Checkpoint g.row.M.Denot → Type 0 = λ e. IsThere loaded state S I e.at e.machine in
    let is_copy : Checkpoint g.row.M.Denot → Type 0 = λ e. (e.at ≡ k + 1) × (loaded e.machine ≡ loaded machine) × (state e.machine ≡ state machine) in
    let known : (e : Checkpoint g.row.M.Denot) → Contains held e ⊎ is_copy e → stands e =
    λ e it. elim it [
      | inl was ↦ All-contains stands held e c.self.invariant.checkpoints was
      | inr copied ↦ record {
        scenario = copied.1 ∙ come.scenario;
        reached = rw copied.0 (copied.2 ∙ come.reached);
        within = omega (arith, copied.0, come.within);
      }
    ] in
    record {
      valid = c.self.invariant.valid;
      short = c.self.invariant.short;
      there = come;
      checkpoints = All-weaker (λ e. Contains held e ⊎ is_copy e) stands known c.enter.new.self.checkpoints c.enter.ensures.copies;
    }
