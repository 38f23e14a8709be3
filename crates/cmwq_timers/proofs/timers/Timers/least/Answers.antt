use Rattle.std.proofs.Common.{◌≡◌, ◌%◌, ◌^◌, ◌<◌, List, ℕ, None, Some, length, Option, arith, sym, ap, ◌∙◌}
use Rattle.cmwq_timers.specs.declared.timer.Timer.{Timer}
use Rattle.cmwq_timers.specs.Timers.{least_timer, timer_at}
use Rattle.cmwq_timers.specs.Tree.{rank_at}
use Rattle.cmwq_timers.proofs.LeastLemmas.{least-none, least-some}
use Rattle.cmwq_timers.proofs.timers.Timers.least.Goals as goal

pub returns-in_err-timer-clause-least : goal.returns-in_err-timer-clause-least
returns-in_err-timer-clause-least c =
    let timers = c.self.inside.timers.items in
    let ranks = c.self.inside.ranks.items in
    let look = c.in_ok-rank.ensures.lookup in
    let root : c.in_ok-rank.rank.now ≡ rank_at ranks 1 = look.3.1 0 ∙ ap (λ (rs : List ℕ). rank_at rs 1) c.deref.ensures.value in
    let some_room : 0 < length timers = omega (arith, look.3.0, ap (λ (rs : List ℕ). length rs) c.deref.ensures.value, c.self.invariant.long) in
    let found : None ≡ timer_at timers (rank_at ranks 1 % 2 ^ 16) =
    c.in_err-timer.ensures.timer
    ∙ ap (λ (ts : List (Option Timer)). timer_at ts (c.in_ok-rank.rank.now % 2 ^ 16)) (sym c.self.view_is)
    ∙ ap (λ (rank : ℕ). timer_at timers (rank % 2 ^ 16)) root
    in
    c.from_residual-in_err-timer.ensures ∙ sym (least-none timers ranks c.self.invariant some_room (sym found)) ∙ ap least_timer c.self.view_is

pub returns-clause-least : goal.returns-clause-least
returns-clause-least c =
    let timers = c.self.inside.timers.items in
    let ranks = c.self.inside.ranks.items in
    let look = c.in_ok-rank.ensures.lookup in
    let root : c.in_ok-rank.rank.now ≡ rank_at ranks 1 = look.3.1 0 ∙ ap (λ (rs : List ℕ). rank_at rs 1) c.deref.ensures.value in
    let some_room : 0 < length timers = omega (arith, look.3.0, ap (λ (rs : List ℕ). length rs) c.deref.ensures.value, c.self.invariant.long) in
    let found : Some c.in_ok-timer.timer ≡ timer_at timers (rank_at ranks 1 % 2 ^ 16) =
    c.in_ok-timer.ensures.timer
    ∙ ap (λ (ts : List (Option Timer)). timer_at ts (c.in_ok-rank.rank.now % 2 ^ 16)) (sym c.self.view_is)
    ∙ ap (λ (rank : ℕ). timer_at timers (rank % 2 ^ 16)) root
    in
    let stamp = c.if-timer-ge-LAST_STAMP.false in
    sym (least-some timers ranks c.self.invariant some_room c.in_ok-timer.timer (sym found) (omega (arith, stamp))) ∙ ap least_timer c.self.view_is
