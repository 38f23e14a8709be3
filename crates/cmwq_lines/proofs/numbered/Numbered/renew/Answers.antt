use Rattle.std.proofs.Common.{◌≤◌, ◌≡◌, length, arith, rules}
use Rattle.std.proofs.lemmas.Fmt.{length-decimal-le}
use Rattle.std.specs.Fmt.{decimal}
use Rattle.cmwq_lines.proofs.NumberLemmas.{written-ends}
use Rattle.cmwq_lines.proofs.numbered.Numbered.renew.Goals as goal

pub write_digits-requires : goal.write_digits-requires
write_digits-requires c =
    let short : length (decimal c.args.number) ≤ 20 = search (rules, length-decimal-le 20) in
    let long : length c.self.inside.digits ≡ 48 = search rules in
    (omega (arith, short), omega (arith, long))

pub invariant_of-self : goal.invariant_of-self
invariant_of-self c = written-ends c.write_digits.new.buf _ c.write_digits.result c.args.number c.write_digits.ensures.start c.write_digits.ensures.written
