use Rattle.std.proofs.Common.{◌≡◌, ℕ, List, Option, min, arith, ap, subst, sym, ◌∙◌}
use Rattle.std.proofs.lemmas.List.{get_or_read}
use Rattle.cmwq_timers.specs.AlarmRanks.{IsFirstRank, alarms_in, with_front}
use Rattle.cmwq_timers.specs.Tree.{rank_at}
use Rattle.cmwq_timers.proofs.AlarmLemmas.{room}
use Rattle.cmwq_timers.proofs.FrontLemmas.{is-first}
use Rattle.cmwq_timers.proofs.alarms.Alarms.first_rank.Goals as goal

pub returns-clause-first : goal.returns-clause-first
returns-clause-first c =
    let front = c.self.inside.front in
    let ticks = c.self.inside.ticks.items in
    let ranks = c.self.inside.ranks.items in
    let root : c.index.result.now ≡ rank_at ranks 1 = get_or_read ranks 1 c.index.result.now (omega (arith, c.self.invariant.tree.long)) c.index.ensures 0 in
    let lesser : c.min.result ≡ min front (rank_at ranks 1) = c.min.ensures ∙ ap (min front) root in
    subst (λ (alarms : List (Option ℕ)). IsFirstRank alarms c.min.result) c.self.view_is
    (subst (IsFirstRank (alarms_in ticks (with_front front ranks))) (sym lesser) (is-first front ticks ranks c.self.invariant))

pub returns-clause-few : goal.returns-clause-few
returns-clause-few c = omega (arith, room c.self.inside.ticks.items (with_front c.self.inside.front c.self.inside.ranks.items) c.args.self.now c.self.view_is, c.self.invariant.tree.few)
