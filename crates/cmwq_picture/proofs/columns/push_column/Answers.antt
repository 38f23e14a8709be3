use Rattle.std.proofs.Common.{◌≡◌, ◌+◌, ◌-◌, ap, arith, false, length, rules, sym, ◌∙◌}
use Rattle.std.proofs.lemmas.List.{get_or_default}
use Rattle.cmwq_picture.specs.Equality.{column_eq}
use Rattle.cmwq_picture.specs.declared.columns.Stretch.{Stretch}
use Rattle.cmwq_picture.proofs.StretchLemmas.{added-first, added-new, added-same}
use Rattle.cmwq_picture.proofs.columns.push_column.Goals.{else-length-gt0-via-then-length-gt0+else-eq, else-length-gt0-via-else-length-gt0}
use Rattle.cmwq_picture.proofs.columns.push_column.Goals as goal

pub returns-then-eq-clause-pushed : goal.returns-then-eq-clause-pushed
returns-then-eq-clause-pushed c =
    let old = c.args.stretches.now.items in
    let k = c.len-length.result - 1 in
    let last : k + 1 ≡ length old = omega (arith, c.len-length.ensures, c.if-length-gt0.true) in
    let here = c.index_mut.ensures.value in
    let one : c.index_mut.result.now ≡ c.index.result.now =
    here ∙ get_or_default old k c.index_mut.result.now c.index.result.now (omega (arith, last)) ∙ sym c.index.ensures in
    added-same old k c.index_mut.result.now c.args.column last here (ap (λ (s : Stretch). column_eq s.column c.args.column) one ∙ sym c.if-eq.ensures.by_parts)

pub returns-clause-pushed : goal.returns-clause-pushed
returns-clause-pushed c =
    let old = c.args.stretches.now.items in
    c.in_ok-push.ensures.items ∙
    elim c.else-length-gt0.branch [
      | else-length-gt0-via-then-length-gt0+else-eq b ↦
          let k = c.len-length.result - 1 in
          let last : k + 1 ≡ length old = omega (arith, c.len-length.ensures, b.if-length-gt0.true) in
          let differs : column_eq b.index.result.now.column c.args.column ≡ false = sym b.eq.ensures.by_parts ∙ b.if-eq.false in
          added-new old k b.index.result.now c.args.column last b.index.ensures differs
      | else-length-gt0-via-else-length-gt0 b ↦
          let none : length old ≡ 0 = omega (arith, c.len-length.ensures, b.if-length-gt0.false) in
          added-first old c.args.column none
    ]
