use Rattle.std.proofs.Common.{arith}
use Rattle.cmwq_scan.proofs.TokenLemmas.{front_word}
use Rattle.cmwq_scan.proofs.words.front_word.Goals as goal

pub returns-clause-words : goal.returns-clause-words
returns-clause-words c =
    let run = c.run_before_blank-run in
    front_word c.args.rest.now run.result (omega (arith, run.ensures.few, c.if-run-eq-LANES.false, c.if-rest-lt-LANES.false)) (omega (arith, c.if-run-eq0.false)) run.ensures.passed
    (run.ensures.blank (omega (arith, run.ensures.few, c.if-run-eq-LANES.false)))
