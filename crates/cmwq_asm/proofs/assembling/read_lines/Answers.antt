use Rattle.std.proofs.Common.{ℕ, ◌+◌, ◌∙◌, ap, sym, length, arith}
use Rattle.cmwq_grammar.specs.Cutting.{lines_of}
use Rattle.cmwq_grammar.specs.Meaning.{stage_after}
use Rattle.cmwq_grammar.specs.LineReasons.{judge}
use Rattle.cmwq_grammar.specs.Stages.{Start}
use Rattle.cmwq_asm.specs.TextStages.{stage_of}
use Rattle.cmwq_asm.proofs.TextLemmas.{next_stage, fault_in_line, last_stage, told_fails}
use Rattle.cmwq_asm.proofs.assembling.read_lines.Goals as goal

pub returns-in-Err-clause-stage : goal.returns-in-Err-clause-stage
returns-in-Err-clause-stage c =
    let now = c.loop-line.lines + 1 in
    let lines = lines_of c.loop-line.rest.now in
    told_fails c.at_line.result now c.in-Err.error (judge (stage_of c.loop-line.stage) c.in-Some.line.now) (stage_after 1 (lines_of c.args.text.now) Start) c.at_line.ensures c.in-Err.ensures
    (λ reason refused. sym c.loop-line.invariant.stage
    ∙ fault_in_line now lines c.in-Some.line.now (lines_of c.in-Some.behind.now) (stage_of c.loop-line.stage) reason c.in-Some.ensures.lines refused)

pub loop-line-preserved : goal.loop-line-preserved
loop-line-preserved c =
    let now = c.loop-line.lines + 1 in
    let lines = lines_of c.loop-line.rest.now in
    let on = c.in_ok-reached.ensures.lines in
    record {
      stage =
          ap (λ (n : ℕ). stage_after n (lines_of c.in_ok-reached.left.now) (stage_of c.in_ok-reached.reached)) (omega arith)
          ∙ sym (on.stage (now + 1))
          ∙ sym (next_stage now lines c.in-Some.line.now (lines_of c.in-Some.behind.now) (stage_of c.loop-line.stage) (stage_of c.in-Ok.next) c.in-Some.ensures.lines c.in-Ok.ensures)
          ∙ c.loop-line.invariant.stage;
      count = omega (arith, on.counted, ap length c.in-Some.ensures.lines);
      room = omega (arith, on.room, c.in-Some.ensures.ends);
      text = c.in_ok-reached.ensures.text;
    }

pub returns-clause-stage : goal.returns-clause-stage
returns-clause-stage c =
    sym c.loop-line.invariant.stage
    ∙ last_stage (c.loop-line.lines + 1) (lines_of c.loop-line.rest.now) (stage_of c.loop-line.stage) c.in_default.ensures.lines

pub judge_line-requires : goal.judge_line-requires
judge_line-requires c known = (c.in-Some.ensures.utf8 (c.loop-line.invariant.text known)).0
