use Rattle.std.proofs.Common.{◌≡◌, ◌+◌, ◌-◌, ◌∙◌, ◌∷◌, ◌++◌, List, ℕ, arith, drop, false, length, rules, subst, sym, take, true}
use Rattle.std.proofs.lemmas.List.{take_rest}
use Rattle.std.proofs.lemmas.Result.{err_from_is_err_and}
use Rattle.std.specs.Prelude.{is_some}
use Rattle.cmwq_debug_lines.specs.Prompt.{line_told}
use Rattle.cmwq_debug_session.specs.Told.{ToldFront, ToldToItsEnd}
use Rattle.cmwq_debug_session.proofs.ToldLemmas.{ended_line, front_line, line_within, told_step, told_then_ended, told_then_front}
use Rattle.cmwq_debug_session.proofs.debugging.answer_lines.Goals as goal

pub returns-in_err-answer_line-clause-front : goal.returns-in_err-answer_line-clause-front
returns-in_err-answer_line-clause-front g c =
    let contents = g.W.Write.contents in
    let M = c.args.manner in
    let S = c.args.scenario.now in
    let text = c.args.text.now in
    let done = c.loop-len.taken in
    let rest : List ℕ = take (length text - done) (drop done text) in
    let n = c.in-Some.len in
    let p = err_from_is_err_and c.from_residual.result c.from_residual.ensures.1 in
    rw p.1 (subst (λ (all : List ℕ). ToldFront (contents c.args.writer.now) (contents c.answer_line.new.writer) M S c.args.debugger.now all) (line_within text rest done n (take_rest text done) c.in-Some.ensures.whole)
    (told_then_front M S (contents c.args.writer.now) (contents c.loop-len.writer) (contents c.answer_line.new.writer) c.args.debugger.now c.loop-len.debugger (take done text) (take n rest ++ 10 ∷ drop (n + 1) rest)
    c.loop-len.invariant.told (front_line M S (contents c.loop-len.writer) (contents c.answer_line.new.writer) c.loop-len.debugger (take n rest) (drop (n + 1) rest) c.in-Some.ensures.line c.in_err-answer_line.ensures.err)))

pub returns-then-not-branch-clause-ended : goal.returns-then-not-branch-clause-ended
returns-then-not-branch-clause-ended g c =
    let contents = g.W.Write.contents in
    let M = c.args.manner in
    let S = c.args.scenario.now in
    let text = c.args.text.now in
    let done = c.loop-len.taken in
    let rest : List ℕ = take (length text - done) (drop done text) in
    let n = c.in-Some.len in
    let ends : is_some (line_told M S c.loop-len.debugger (take n rest)).1 ≡ false = sym c.in_ok-answer_line.ensures.goes_on ∙ search rules in
    subst (λ (all : List ℕ). ToldToItsEnd (contents c.args.writer.now) (contents c.answer_line.new.writer) M S c.args.debugger.now all) (line_within text rest done n (take_rest text done) c.in-Some.ensures.whole)
    (told_then_ended M S (contents c.args.writer.now) (contents c.loop-len.writer) (contents c.answer_line.new.writer) c.args.debugger.now c.loop-len.debugger (take done text) (take n rest ++ 10 ∷ drop (n + 1) rest)
    c.loop-len.invariant.told
    (ended_line M S (contents c.loop-len.writer) (contents c.answer_line.new.writer) c.loop-len.debugger (take n rest) (drop (n + 1) rest) c.in-Some.ensures.line ends c.in_ok-answer_line.ensures.ok))

pub loop-len-preserved : goal.loop-len-preserved
loop-len-preserved g c =
    let contents = g.W.Write.contents in
    let M = c.args.manner in
    let S = c.args.scenario.now in
    let text = c.args.text.now in
    let done = c.loop-len.taken in
    let rest : List ℕ = take (length text - done) (drop done text) in
    let n = c.in-Some.len in
    let goes_on : is_some (line_told M S c.loop-len.debugger (take n rest)).1 ≡ true = sym c.in_ok-answer_line.ensures.goes_on ∙ search rules in
    record {
      told = told_step M S (contents c.args.writer.now) (contents c.loop-len.writer) (contents c.answer_line.new.writer) c.args.debugger.now c.loop-len.debugger c.answer_line.new.debugger text rest done n
          (take_rest text done) c.in-Some.ensures.whole c.in-Some.ensures.line c.loop-len.invariant.told c.in_ok-answer_line.ensures.debugger goes_on c.in_ok-answer_line.ensures.ok;
      within = omega (arith, c.in-Some.ensures.within, c.loop-len.invariant.within);
      sound = search rules;
    }
