use Rattle.std.proofs.Common.{◌≡◌, ◌∙◌, List, ℕ, ap, rules, sym}
use Rattle.cmwq_types.specs.Contents.{ScenarioContents}
use Rattle.cmwq_dump.specs.Dump.{dump}
use Rattle.cmwq_debug.specs.Debugging.{says, state_at, Text}
use Rattle.cmwq_debug.proofs.debugger.Debugger.dump.Goals as goal

pub returns : goal.returns
returns g c =
    let d = c.args.self.now in
    let reached = g.M.Reads.state c.machine.result.now in
    let loaded : g.M.Reads.loaded c.machine.result.now ≡ d.scenario = search rules in
    let state : reached ≡ state_at d d.position = search rules in
    ap (λ (text : List ℕ). says d (Text text)) (sym (c.in_ok-dump_text.ensures.text ∙ ap (λ (S : ScenarioContents). dump S reached) loaded ∙ ap (dump d.scenario) state))
