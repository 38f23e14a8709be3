use Rattle.std.proofs.Common.{◌≡◌, ◌<◌, ◌/◌, ◌^◌, ℕ, List, Option, Some, length, option_map, arith, ap, sym, ◌∙◌}
use Rattle.cmwq_timers.specs.declared.timer.Timer.{Timer}
use Rattle.cmwq_timers.specs.Timers.{least_timer}
use Rattle.cmwq_timers.specs.Tree.{rank_at}
use Rattle.cmwq_timers.proofs.LeastLemmas.{next-none, next-some}
use Rattle.cmwq_timers.proofs.timers.Timers.next_due.Goals as goal

pub returns-then-rank : goal.returns-then-rank
returns-then-rank c =
    let timers = c.self.inside.timers.items in
    let ranks = c.self.inside.ranks.items in
    let look = c.in_ok-rank.ensures.lookup in
    let root : c.in_ok-rank.field-0.now ≡ rank_at ranks 1 = look.3.1 0 ∙ ap (λ (rs : List ℕ). rank_at rs 1) c.deref.ensures.value in
    let some_room : 0 < length timers = omega (arith, look.3.0, ap (λ (rs : List ℕ). length rs) c.deref.ensures.value, c.self.invariant.long) in
    next-none timers ranks c.self.invariant some_room (sym root ∙ c.if-rank.true)
    ∙ ap (λ (ts : List (Option Timer)). option_map (λ (timer : Timer). timer.due) (least_timer ts)) c.self.view_is

pub returns : goal.returns
returns c =
    let timers = c.self.inside.timers.items in
    let ranks = c.self.inside.ranks.items in
    let look = c.in_ok-rank.ensures.lookup in
    let root : c.in_ok-rank.field-0.now ≡ rank_at ranks 1 = look.3.1 0 ∙ ap (λ (rs : List ℕ). rank_at rs 1) c.deref.ensures.value in
    let some_room : 0 < length timers = omega (arith, look.3.0, ap (λ (rs : List ℕ). length rs) c.deref.ensures.value, c.self.invariant.long) in
    ap Some (c.due_in.ensures ∙ ap (λ (rank : ℕ). rank / 2 ^ 64) root)
    ∙ next-some timers ranks c.self.invariant some_room (λ none. c.if-rank.false (root ∙ none))
    ∙ ap (λ (ts : List (Option Timer)). option_map (λ (timer : Timer). timer.due) (least_timer ts)) c.self.view_is
