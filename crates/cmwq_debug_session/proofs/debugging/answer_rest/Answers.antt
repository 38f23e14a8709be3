use Rattle.std.proofs.Common.{◌≡◌, ◌∙◌, ◌<◌, List, OnErr, OnOk, arith, false, length, rules, subst, sym, true, ℕ}
use Rattle.std.proofs.lemmas.Grind.{common_steps}
use Rattle.std.proofs.lemmas.Result.{err_from_is_err_and, on_err_weaker, on_ok_weaker}
use Rattle.std.specs.Io.KnownBytes.{Appends}
use Rattle.std.specs.Prelude.{is_some}
use Rattle.cmwq_streams.specs.Sending.{HasSentFront}
use Rattle.cmwq_debug_lines.specs.Prompt.{ending, line_told}
use Rattle.cmwq_debug_session.proofs.ToldLemmas.{ended_last, front_end, front_last, nothing_left, told_last}
use Rattle.cmwq_debug_session.proofs.debugging.answer_rest.Goals as goal

pub returns-then-is_empty-clause-ok : goal.returns-then-is_empty-clause-ok
returns-then-is_empty-clause-ok g c =
    let contents = g.W.Write.contents in
    let none : length c.args.text.now ≡ 0 = grind (arith, common_steps) in
    let same : c.ending.result.now ≡ ending c.args.manner = c.ending.ensures in
    subst (λ (said : List ℕ). OnOk c.put_all.result (Appends (contents c.args.writer.now) (contents c.put_all.new.writer) said))
    (same ∙ sym (nothing_left c.args.manner c.args.scenario.now c.args.debugger.now c.args.text.now none)) c.put_all.ensures.ok

pub returns-then-is_empty-clause-err : goal.returns-then-is_empty-clause-err
returns-then-is_empty-clause-err g c =
    let contents = g.W.Write.contents in
    let none : length c.args.text.now ≡ 0 = grind (arith, common_steps) in
    let same : c.ending.result.now ≡ ending c.args.manner = c.ending.ensures in
    subst (λ (said : List ℕ). OnErr c.put_all.result (HasSentFront (contents c.args.writer.now) (contents c.put_all.new.writer) said))
    (same ∙ sym (nothing_left c.args.manner c.args.scenario.now c.args.debugger.now c.args.text.now none)) c.put_all.ensures.err

pub returns-in_err-answer_line-clause-err : goal.returns-in_err-answer_line-clause-err
returns-in_err-answer_line-clause-err g c =
    let contents = g.W.Write.contents in
    let some : 0 < length c.args.text.now = grind (arith, common_steps) in
    let p = err_from_is_err_and c.from_residual.result c.from_residual.ensures.1 in
    rw p.1 (front_last c.args.manner c.args.scenario.now (contents c.args.writer.now) (contents c.args.writer.now) (contents c.answer_line.new.writer) c.args.debugger.now c.args.text.now c.requires.one some
    c.in_err-answer_line.ensures.err)

pub returns-then-not-branch-clause-ok : goal.returns-then-not-branch-clause-ok
returns-then-not-branch-clause-ok g c =
    let contents = g.W.Write.contents in
    let some : 0 < length c.args.text.now = grind (arith, common_steps) in
    let ends : is_some (line_told c.args.manner c.args.scenario.now c.args.debugger.now c.args.text.now).1 ≡ false = sym c.in_ok-answer_line.ensures.goes_on ∙ search rules in
    ended_last c.args.manner c.args.scenario.now (contents c.args.writer.now) (contents c.args.writer.now) (contents c.answer_line.new.writer) c.args.debugger.now c.args.text.now c.requires.one some
    ends c.in_ok-answer_line.ensures.ok

pub returns-clause-ok : goal.returns-clause-ok
returns-clause-ok g c =
    let contents = g.W.Write.contents in
    let some : 0 < length c.args.text.now = grind (arith, common_steps) in
    let same : c.ending-2.result.now ≡ ending c.args.manner = c.ending-2.ensures in
    let goes_on : is_some (line_told c.args.manner c.args.scenario.now c.args.debugger.now c.args.text.now).1 ≡ true = sym c.in_ok-answer_line.ensures.goes_on ∙ search rules in
    on_ok_weaker c.put_all-2.result
    (λ sent. told_last c.args.manner c.args.scenario.now (contents c.args.writer.now) (contents c.answer_line.new.writer) (contents c.put_all-2.new.writer) c.args.debugger.now c.args.text.now c.requires.one some
    goes_on c.in_ok-answer_line.ensures.ok (subst (λ (said : List ℕ). Appends (contents c.answer_line.new.writer) (contents c.put_all-2.new.writer) said) same sent)) c.put_all-2.ensures.ok

pub returns-clause-err : goal.returns-clause-err
returns-clause-err g c =
    let contents = g.W.Write.contents in
    let some : 0 < length c.args.text.now = grind (arith, common_steps) in
    let same : c.ending-2.result.now ≡ ending c.args.manner = c.ending-2.ensures in
    let goes_on : is_some (line_told c.args.manner c.args.scenario.now c.args.debugger.now c.args.text.now).1 ≡ true = sym c.in_ok-answer_line.ensures.goes_on ∙ search rules in
    on_err_weaker c.put_all-2.result
    (λ front. front_end c.args.manner c.args.scenario.now (contents c.args.writer.now) (contents c.answer_line.new.writer) (contents c.put_all-2.new.writer) c.args.debugger.now c.args.text.now c.requires.one some
    goes_on c.in_ok-answer_line.ensures.ok (subst (λ (said : List ℕ). HasSentFront (contents c.answer_line.new.writer) (contents c.put_all-2.new.writer) said) same front)) c.put_all-2.ensures.err
