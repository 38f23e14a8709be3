use Rattle.std.proofs.Common.{◌≡◌, ◌≤◌, ◌+◌, ◌-◌, ◌++◌, min, ap, subst, sym, ◌∙◌, List, ℕ, length, take, drop, length-append, length-drop, length-take, arith}
use Rattle.cmwq_lines.proofs.RepeatedLemmas.{HasCopied, copied-all, copied-behind, copied-more}
use Rattle.cmwq_lines.proofs.block.copy_on.Goals as goal

pub loop-at-preserved : goal.loop-at-preserved
loop-at-preserved c =
    let old = c.args.bytes.now in
    let now = c.loop-at.bytes in
    let at = c.loop-at.at in
    let start = c.args.start in
    let was = c.loop-at.invariant in
    let n = c.min-some.result in
    let some : n ≡ min (at - start) (c.args.end - at) = c.min-some.ensures in
    let done = c.split_at_mut-done.result.0.now in
    let free = c.split_at_mut-done.result.1.now in
    let copied = c.copy_from_slice.new.self in
    let split = c.split_at_mut-done.ensures in
    let there : c.args.there ≤ length old = omega (arith, c.requires.within) in
    let copied_is : copied ≡ take n (drop start done) = c.copy_from_slice.ensures.after ∙ ap (λ (m : ℕ). take m (drop start done)) (omega arith) in
    let many : length copied ≡ n = omega (arith, c.copy_from_slice.ensures.len, split.back_len, length-take n free, some, was.long, was.within, c.requires.within) in
    let long : length (done ++ (copied ++ drop n free)) ≡ length now =
    omega (arith, length-append done (copied ++ drop n free), length-append copied (drop n free), length-drop n free, many, split.back_len, split.front_len, some, was.long, was.within, c.requires.within) in
    let text : take (at + n) (done ++ (copied ++ drop n free)) ≡ take at now ++ take n (drop start (take at now)) =
    copied-behind done copied (drop n free) at n split.front_len many
    ∙ ap (λ (l : List ℕ). done ++ l) copied_is
    ∙ ap (λ (l : List ℕ). l ++ take n (drop start l)) split.front in
    subst (λ (m : ℕ). HasCopied old (done ++ (copied ++ drop n free)) start c.args.there c.args.end (at + m)) (sym some)
    (copied-more old start c.args.there c.requires.some there now (done ++ (copied ++ drop n free)) c.args.end at was c.loop-at-test.true long
    (subst (λ (m : ℕ). take (at + m) (done ++ (copied ++ drop n free)) ≡ take at now ++ take m (drop start (take at now))) some text))

pub returns-clause-text : goal.returns-clause-text
returns-clause-text c more end_is =
    let room : c.args.there ≤ length c.args.bytes.now = omega (arith, c.requires.within) in
    let same : c.loop-at.at ≡ c.args.end = omega (arith, c.loop-at.invariant.within, c.loop-at-test.false) in
    copied-all c.args.bytes.now c.args.start c.args.there c.requires.some room c.loop-at.bytes c.args.end more (subst (λ (at : ℕ). HasCopied c.args.bytes.now c.loop-at.bytes c.args.start c.args.there c.args.end at) same c.loop-at.invariant) end_is
