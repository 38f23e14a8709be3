use Rattle.std.proofs.Common.{◌≤◌, length, arith, rules}
use Rattle.std.proofs.lemmas.Fmt.{length-decimal-le}
use Rattle.std.specs.Fmt.{decimal}
use Rattle.cmwq_lines.proofs.NumberLemmas.{written-ends}
use Rattle.cmwq_lines.proofs.numbered.Numbered.new.Goals as goal

pub write_digits-start-requires : goal.write_digits-start-requires
write_digits-start-requires c =
    let short : length (decimal c.args.number) ≤ 20 = search (rules, length-decimal-le 20) in
    (omega (arith, short), omega arith)

pub invariant_of-result : goal.invariant_of-result
invariant_of-result c = written-ends c.write_digits-start.new.buf _ c.write_digits-start.result c.args.number c.write_digits-start.ensures.start c.write_digits-start.ensures.written
