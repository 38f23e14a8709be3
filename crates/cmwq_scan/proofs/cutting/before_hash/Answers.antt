use Rattle.std.proofs.Common.{◌≡◌, ◌∙◌, ap, length, take, take_all, sym, arith}
use Rattle.std.proofs.lemmas.List.Sums.{position_or_len_is}
use Rattle.std.specs.List.{position_or_len}
use Rattle.cmwq_grammar.specs.Cutting.{is_hash}
use Rattle.cmwq_scan.proofs.CuttingLemmas.{fails}
use Rattle.cmwq_scan.proofs.cutting.before_hash.Goals as goal

pub returns-then-place-line : goal.returns-then-place-line
returns-then-place-line c =
    let line = c.args.line.now in
    let inside = c.if-place-line.true in
    let at : position_or_len is_hash line ≡ c.args.place =
    position_or_len_is is_hash line c.args.place 0 (omega (arith, inside)) (λ k below. fails _ (λ passes. c.requires.passed k (omega arith) below (omega (arith, inside, below), passes))) (λ within. c.requires.there inside) in
    ap (λ n. take n line) (sym at)

pub returns-else-place-line : goal.returns-else-place-line
returns-else-place-line c =
    let line = c.args.line.now in
    let outside = c.if-place-line.false in
    let at : position_or_len is_hash line ≡ length line =
    position_or_len_is is_hash line (length line) 0 (omega arith) (λ k below. fails _ (λ passes. c.requires.passed k (omega arith) (omega (arith, outside, below)) (below, passes))) (λ within. absurd (omega (arith, within))) in
    sym (ap (λ n. take n line) at ∙ take_all (length line) line (omega arith))
