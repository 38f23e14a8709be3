use Rattle.std.proofs.Common.{◌≡◌, ap, rules, ◌∙◌}
use Rattle.cmwq_types.specs.Scenario.{expand_lines}
use Rattle.cmwq_table.specs.State.{State, start}
use Rattle.cmwq_play.proofs.CommandLemmas.{writes_more, writes_moved}
use Rattle.cmwq_play.specs.Framing.{framed_text}
use Rattle.cmwq_play.proofs.framed.frame_lines.Goals as goal

pub returns-clause-writes : goal.returns-clause-writes
returns-clause-writes g c =
    let S = c.args.scenario.now in
    let instrs = expand_lines c.args.lines.now in
    let text = λ (s : State). framed_text g.T.Teller.told g.T.Teller.keeps g.T.Framed.opening g.T.Framed.closing c.args.teller S s instrs in
    writes_more (λ output. output ≡ text (g.M.Reads.state c.args.machine)) (λ output. output ≡ text (start S))
    (g.W.Write.contents c.args.writer.now) _ _ c.send_framed-outcome.result (λ output is. is ∙ ap text c.requires.start)
    (writes_moved (ap g.W.Write.contents c.new-2.ensures.writer) (search rules) (search rules) c.send_framed-outcome.ensures.writes)
