use Rattle.std.proofs.Common.{◌≡◌, ◌≤◌, length, length-drop, drop, ap, arith, rules}
use Rattle.std.proofs.lemmas.Fmt.{length-decimal-le}
use Rattle.std.specs.Fmt.{decimal}
use Rattle.cmwq_list.proofs.line_end.LineEnd.put_number.Goals as goal

pub write_digits-self-inside-requires : goal.write_digits-self-inside-requires
write_digits-self-inside-requires c =
    let short : length (decimal c.from.result) ≤ 10 = search (rules, length-decimal-le 10) in
    let there : length (drop c.self.inside.start c.self.inside.bytes) ≡ length c.args.self.now = ap length c.self.view_is in
    let long : length c.self.inside.bytes ≡ 80 = search rules in
    (omega (arith, short, there, long, c.requires, length-drop c.self.inside.start c.self.inside.bytes), omega (arith, long, c.self.invariant))

pub put-requires : goal.put-requires
put-requires c =
    let short : length (decimal c.from.result) ≤ 10 = search (rules, length-decimal-le 10) in
    let there : length (drop c.self.inside.start c.self.inside.bytes) ≡ length c.args.self.now = ap length c.self.view_is in
    let long : length c.write_digits-self-inside.new.buf ≡ 80 = search rules in
    omega (arith, short, there, long, c.requires, c.write_digits-self-inside.ensures.start, length-drop c.self.inside.start c.self.inside.bytes, length-drop c.write_digits-self-inside.result c.write_digits-self-inside.new.buf)

pub returns-clause-short : goal.returns-clause-short
returns-clause-short c =
    let short : length (decimal c.from.result) ≤ 10 = search (rules, length-decimal-le 10) in
    let there : length (drop c.self.inside.start c.self.inside.bytes) ≡ length c.args.self.now = ap length c.self.view_is in
    let long : length c.write_digits-self-inside.new.buf ≡ 80 = search rules in
    omega (arith, short, there, long, ap length c.put.ensures, c.self.told, c.write_digits-self-inside.ensures.start, length-drop c.self.inside.start c.self.inside.bytes, length-drop c.write_digits-self-inside.result c.write_digits-self-inside.new.buf)
