use Rattle.std.proofs.Common.{◌≡◌, ◌∙◌, ◌<◌, ◌-◌, List, suc, ap, arith, length, rules}
use Rattle.std.proofs.lemmas.Grind.{common_steps}
use Rattle.std.specs.Prelude.{slice_index_or}
use Rattle.cmwq_types.specs.declared.instr.Instr.{Instr}
use Rattle.cmwq_debug.specs.Replaying.{Course, next_reply}
use Rattle.cmwq_debug.proofs.MovingLemmas.{last_is}
use Rattle.cmwq_debug.proofs.replay.Replay.last.Goals as goal

pub returns-clause-last : goal.returns-clause-last
returns-clause-last g c =
    let old : Course = c.args.self.now in
    let mid : Course = c.reach.new.self in
    let position = c.position-position.result in
    let reached = c.in_ok-reach.ensures.ok in
    let scenario : mid.scenario ≡ old.scenario = reached.gone.scenario ∙ ap (λ (t : Course). t.scenario) reached.back.same in
    let instrs : mid.instrs ≡ old.instrs = reached.gone.instrs ∙ ap (λ (t : Course). t.instrs) reached.back.same in
    let next : old.position ≡ suc (position - 1) = grind (arith, common_steps) in
    let less : position - 1 < length old.instrs = grind (arith, common_steps) in
    let index : c.index-instr.result.now ≡ slice_index_or mid.instrs (position - 1) c.index-instr.result.now = search rules in
    let reply : c.advance.result ≡ next_reply mid = search rules in
    last_is mid old.scenario old.instrs old.position (position - 1) c.index-instr.result.now c.advance.result scenario instrs reached.gone.position next less
    (index ∙ ap (λ (I : List Instr). slice_index_or I (position - 1) c.index-instr.result.now) instrs) reply
