use Rattle.std.proofs.Common.{◌≡◌, IfOk, ap, rules, subst, ◌∙◌}
use Rattle.cmwq_table.specs.State.{State, start}
use Rattle.cmwq_table.specs.Table.{after_all}
use Rattle.cmwq_types.specs.Scenario.{expand_lines}
use Rattle.cmwq_play.proofs.CommandLemmas.{writes_more, writes_moved}
use Rattle.cmwq_explain.specs.Looking.{looker_told, looker_wholly, run_end}
use Rattle.cmwq_explain.specs.ChangesTold.{as_unit}
use Rattle.cmwq_explain.proofs.changes.tell_lines.Goals as goal

pub returns-clause-writes : goal.returns-clause-writes
returns-clause-writes g c =
    let says = g.P.Sayer.says in
    let S = c.args.scenario.now in
    let instrs = expand_lines c.args.lines.now in
    writes_more (λ output. output ≡ looker_told says c.args.looker S (g.M.Reads.state c.args.machine) instrs) (λ output. output ≡ looker_told says c.args.looker S (start S) instrs)
    (g.W.Write.contents c.args.writer.now) _ _ (as_unit c.tell-outcome.result) (λ output is. is ∙ ap (λ (s : State). looker_told says c.args.looker S s instrs) c.requires.start)
    (writes_moved (ap g.W.Write.contents c.new-2.ensures.writer) (search rules) (search rules) c.tell-outcome.ensures.writes)

pub returns-clause-end : goal.returns-clause-end
returns-clause-end g c =
    let S = c.args.scenario.now in
    let instrs = expand_lines c.args.lines.now in
    subst (λ (s : State). IfOk c.tell-outcome.result (λ end. end ≡ run_end (looker_wholly g.P.Sayer.says c.args.looker S s instrs) (after_all S s instrs))) c.requires.start c.tell-outcome.ensures.end
