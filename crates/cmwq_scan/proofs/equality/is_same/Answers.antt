use Rattle.std.proofs.Common.{◌≡◌, ◌+◌, ◌-◌, ◌∙◌, ap₂, length, nat_eq, sym, arith}
use Rattle.cmwq_scan.proofs.EqualityLemmas.{same_by_eights, same_by_fours}
use Rattle.cmwq_scan.proofs.equality.is_same.Goals as goal

pub returns-then-eight_from : goal.returns-then-eight_from
returns-then-eight_from c =
    let one = c.args.one.now in
    let other = c.args.other.now in
    let last = length one - 8 in
    let long : length one ≡ 8 + last = omega (arith, c.if-len-lt8.false) in
    let longs : length other ≡ 8 + last = omega (arith, c.if-len-other.false, long) in
    ap₂ nat_eq c.eight_from-then-eight_from.ensures c.eight_from-then-eight_from-2.ensures
    ∙ same_by_eights one other (λ i. omega (arith, c.type_inv.one i)) (λ i. omega (arith, c.type_inv.other i)) last (omega (arith, c.if-len-gt16.false)) long longs (sym c.eight_from.ensures ∙ c.if-eight_from.true ∙ c.eight_from-2.ensures)

pub returns-then-four_from : goal.returns-then-four_from
returns-then-four_from c =
    let one = c.args.one.now in
    let other = c.args.other.now in
    let last = length one - 4 in
    let long : length one ≡ 4 + last = omega (arith, c.if-len-lt4.false) in
    let longs : length other ≡ 4 + last = omega (arith, c.if-len-other.false, long) in
    ap₂ nat_eq c.four_from-then-four_from.ensures c.four_from-then-four_from-2.ensures
    ∙ same_by_fours one other (λ i. omega (arith, c.type_inv.one i)) (λ i. omega (arith, c.type_inv.other i)) last (omega (arith, c.if-len-lt8.true)) long longs (sym c.four_from.ensures ∙ c.if-four_from.true ∙ c.four_from-then-len-lt8.ensures)
