use Rattle.std.proofs.Common.{◌≡◌, ◌≤◌, ℕ, arith, sym, ◌∙◌, subst, true, None}
use Rattle.cmwq_types.specs.First.{by_least, first_below}
use Rattle.cmwq_types.proofs.FirstLemmas.{first_below-from}
use Rattle.cmwq_fitting.specs.Fitting.{fits}
use Rattle.cmwq_fitting.specs.Shortened.{shortened}
use Rattle.cmwq_fitting.specs.declared.shortening.TheConstants.{FORMS}
use Rattle.cmwq_fitting.proofs.shortening.name_number.Goals as goal

pub returns-then-branch : goal.returns-then-branch
returns-then-branch c =
    let test = λ (n : ℕ). fits c.args.gap.now.line c.args.gap.now.front.now (shortened c.args.name.now n) in
    let number = c.loop-number.number in
    let passes : test number ≡ true = sym c.in_ok-fits_shortened.ensures ∙ c.if-branch.true in
    sym (first_below-from test number c.loop-number.invariant passes FORMS c.loop-number-test.true)

pub returns : goal.returns
returns c =
    let test = λ (n : ℕ). fits c.args.gap.now.line c.args.gap.now.front.now (shortened c.args.name.now n) in
    let number = c.loop-number.number in
    let within : number ≤ FORMS = c.loop-number.auto.number-end in
    let all : number ≡ FORMS = omega (arith, c.loop-number-test.false, within) in
    sym (subst (λ (n : ℕ). first_below (by_least (λ k. k)) test n ≡ None) all c.loop-number.invariant)
