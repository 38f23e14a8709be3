use Rattle.std.proofs.Common.{◌≡◌, ◌∙◌, false, sym, arith}
use Rattle.cmwq_grammar.specs.LineFields.{is_number}
use Rattle.cmwq_scan.proofs.NumberLemmas.{ill-no_number, stops-no_number}
use Rattle.cmwq_scan.proofs.numbers.number_of.Goals as goal
use Rattle.cmwq_scan.proofs.numbers.number_of.Goals.{else-count-word-via-then-count-word+else-begins_well, else-count-word-via-else-count-word}

pub returns-else-count-word-clause-exact : goal.returns-else-count-word-clause-exact
returns-else-count-word-clause-exact c =
    let word = c.args.word.now in
    let front = c.leading_digits-value.ensures in
    let none : is_number c.args.word.now ≡ false =
    elim c.else-count-word.branch [
      | else-count-word-via-then-count-word+else-begins_well w ↦ ill-no_number word (sym w.begins_well.ensures ∙ w.if-begins_well.false)
      | else-count-word-via-else-count-word w ↦ stops-no_number word c.leading_digits-value.result.1 (omega (arith, front.there, w.if-count-word.false)) front.few front.all
    ] in
    (λ never. cc, λ number. let both = sym none ∙ number in cc)
