use Rattle.std.proofs.Common.{◌≡◌, ℕ, Bool, length, rules, sym, true}
use Rattle.cmwq_debug.specs.Breaks.{break_at, matches_seen, sight_at}
use Rattle.cmwq_debug.proofs.LowestLemmas.{lowest-is}
use Rattle.cmwq_debug.proofs.breaks.said_by.Goals as goal

pub returns-then-matches_seen-clause-lowest : goal.returns-then-matches_seen-clause-lowest
returns-then-matches_seen-clause-lowest g c =
    let test : ℕ → Bool = λ i. matches_seen (sight_at c.args.sights.now i) (g.M.Reads.state c.args.machine.now) c.args.reply (break_at c.args.breaks.now i) in
    let passes : test c.loop-i.i ≡ true = search rules in
    sym (lowest-is test c.loop-i.i (length c.args.breaks.now) c.loop-i.invariant passes (search rules))
