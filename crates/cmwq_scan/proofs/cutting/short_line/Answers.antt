use Rattle.std.proofs.Common.{◌∙◌, ◌+◌, ◌<◌, arith}
use Rattle.cmwq_grammar.specs.Cutting.{lines_of}
use Rattle.cmwq_scan.proofs.CuttingLemmas.{first_at, lines_of-some, rest_is, utf8_parts}
use Rattle.cmwq_scan.proofs.cutting.short_line.Goals as goal

pub returns-clause-lines : goal.returns-clause-lines
returns-clause-lines c =
    let feed = c.run_before-feed in
    let short : feed.result < 64 = omega (arith, feed.ensures.few, c.if-feed-eq-WIDE.false) in
    lines_of-some c.args.text.now feed.result (first_at 10 c.args.text.now feed.result (omega (arith, short, c.if-text-lt-WIDE.false)) feed.ensures.passed (feed.ensures.found short))
    ∙ rest_is (λ rest. lines_of rest) _ (feed.result + 1) c.args.text.now

pub returns-clause-utf8 : goal.returns-clause-utf8
returns-clause-utf8 c =
    let feed = c.run_before-feed in
    let short : feed.result < 64 = omega (arith, feed.ensures.few, c.if-feed-eq-WIDE.false) in
    utf8_parts c.args.text.now feed.result (first_at 10 c.args.text.now feed.result (omega (arith, short, c.if-text-lt-WIDE.false)) feed.ensures.passed (feed.ensures.found short))
