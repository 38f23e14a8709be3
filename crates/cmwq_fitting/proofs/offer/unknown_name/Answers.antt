use Rattle.std.proofs.Common.{◌≡◌, ◌<◌, ◌≤◌, ◌+◌, ℕ, suc, arith, ap, sym, ◌∙◌, subst, length, map, not, true, false, None}
use Rattle.std.proofs.lemmas.List.{length-map}
use Rattle.cmwq_types.specs.First.{by_least, first_below}
use Rattle.cmwq_types.proofs.FirstLemmas.{first_below-from}
use Rattle.cmwq_fitting.specs.KnownWords.{is_known}
use Rattle.cmwq_fitting.specs.Offered.{numbered_name}
use Rattle.cmwq_fitting.proofs.KnownLemmas.{none_yet}
use Rattle.cmwq_fitting.proofs.offer.unknown_name.Goals as goal

pub returns-then-not-branch : goal.returns-then-not-branch
returns-then-not-branch c =
    let known = map (λ word. word.now) c.args.known.now in
    let test = λ (n : ℕ). not (is_known known (numbered_name n)) in
    let number = c.loop-number.number in
    let passes : test number ≡ true = ap not (sym c.in_ok-is_name_known.ensures ∙ c.if-not-branch.true) in
    let long : length known ≡ length c.args.known.now = length-map c.args.known.now (λ word. word.now) in
    let below : number < length known + 1 = subst (λ (n : ℕ). number < n + 1) (sym long) c.loop-number-test.true in
    sym (first_below-from test number c.loop-number.invariant passes (length known + 1) below)

pub loop-number-preserved : goal.loop-number-preserved
loop-number-preserved c =
    let known = map (λ word. word.now) c.args.known.now in
    let test = λ (n : ℕ). not (is_known known (numbered_name n)) in
    let number = c.loop-number.number in
    let fails : test number ≡ false = ap not (sym c.in_ok-is_name_known.ensures ∙ c.if-not-branch.false) in
    let more : number + 1 ≡ suc number = omega arith in
    subst (λ (n : ℕ). first_below (by_least (λ k. k)) test n ≡ None) (sym more) (none_yet test number c.loop-number.invariant fails)

pub returns : goal.returns
returns c =
    let known = map (λ word. word.now) c.args.known.now in
    let test = λ (n : ℕ). not (is_known known (numbered_name n)) in
    let number = c.loop-number.number in
    let long : length known ≡ length c.args.known.now = length-map c.args.known.now (λ word. word.now) in
    let within : number ≤ length c.args.known.now + 1 = c.loop-number.auto.number-end in
    let all : number ≡ length known + 1 = omega (arith, c.loop-number-test.false, within, long) in
    sym (subst (λ (n : ℕ). first_below (by_least (λ k. k)) test n ≡ None) all c.loop-number.invariant)
