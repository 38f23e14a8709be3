use Rattle.std.proofs.Common.{◌≡◌, ℕ, Bool, length, rules, sym, true}
use Rattle.std.specs.Prelude.{is_none}
use Rattle.cmwq_debug.specs.Breaks.{break_at}
use Rattle.cmwq_debug.proofs.LowestLemmas.{lowest-is}
use Rattle.cmwq_debug.proofs.breaks.free.Goals as goal

pub returns-then-is_none-clause-lowest : goal.returns-then-is_none-clause-lowest
returns-then-is_none-clause-lowest c =
    let test : ℕ → Bool = λ i. is_none (break_at c.args.breaks.now i) in
    let passes : test c.loop-i.i ≡ true = search rules in
    sym (lowest-is test c.loop-i.i (length c.args.breaks.now) c.loop-i.invariant passes c.loop-i-test.true)
