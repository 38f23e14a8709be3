use Rattle.std.proofs.Common.{arith, ap, ◌≡◌, ℕ, List, Some, false, true, sym, ◌∙◌, subst}
use Rattle.cmwq_grammar.specs.FaultLaw.{IsFault}
use Rattle.cmwq_grammar.specs.Meaning.{fault_at}
use Rattle.cmwq_verdict.specs.FaultPlaces.{cut_behind}
use Rattle.cmwq_verdict.proofs.PlaceLemmas.{none_more, word_at, word_is}
use Rattle.cmwq_verdict.proofs.places.place_among.Goals as goal

pub returns-then-branch : goal.returns-then-branch
returns-then-branch c =
    let fault = fault_at c.args.fault.line c.args.fault.why in
    let word = c.index-words-number.result in
    let at = word_at c.args.words.now c.loop-number.number word _ c.loop-number-test.true (sym c.index-words-number.is) in
    let cut = c.cut_behind-cut.ensures ∙ ap (λ (s : ℕ). cut_behind c.args.text.now s word) c.requires.start in
    let faulty = subst (λ (t : List ℕ). IsFault t fault) cut (c.in_ok-has_fault.ensures.0 c.if-branch.true) in
    (c.loop-number.number, at ∙ ap Some (word_is word c.bytes.result.now c.column.result c.bytes.ensures c.column.ensures), (word, at, faulty), c.loop-number.invariant)

pub loop-number-preserved : goal.loop-number-preserved
loop-number-preserved c =
    let fault = fault_at c.args.fault.line c.args.fault.why in
    let word = c.index-words-number.result in
    let at = word_at c.args.words.now c.loop-number.number word _ c.loop-number-test.true (sym c.index-words-number.is) in
    let cut = c.cut_behind-cut.ensures ∙ ap (λ (s : ℕ). cut_behind c.args.text.now s word) c.requires.start in
    none_more c.args.text.now fault c.args.words.now c.loop-number.number word at c.loop-number.invariant
    (λ faulty. apart (sym (c.in_ok-has_fault.ensures.1 (subst (λ (t : List ℕ). IsFault t fault) (sym cut) faulty)) ∙ c.if-branch.false))
  where
    apart : {A : Type 0} → true ≡ false → A
    apart is = cc

pub returns : goal.returns
returns c = λ j less. c.loop-number.invariant j (omega (arith, less))
