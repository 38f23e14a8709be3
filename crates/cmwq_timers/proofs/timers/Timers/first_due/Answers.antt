use Rattle.std.proofs.Common.{◌≡◌, ◌<◌, ◌/◌, ◌%◌, ◌^◌, ℕ, List, Option, is_some, length, option_map, arith, ap, subst, sym, ◌∙◌}
use Rattle.cmwq_timers.specs.declared.timer.Timer.{Timer}
use Rattle.cmwq_timers.specs.Timers.{due_by, least_timer, timer_at}
use Rattle.cmwq_timers.specs.Tree.{rank_at}
use Rattle.cmwq_timers.proofs.LeastLemmas.{has-root, none-due, root-due}
use Rattle.cmwq_timers.proofs.timers.Timers.first_due.Goals as goal

pub returns-then-due_in-tick-clause-first : goal.returns-then-due_in-tick-clause-first
returns-then-due_in-tick-clause-first c =
    let timers = c.self.inside.timers.items in
    let ranks = c.self.inside.ranks.items in
    let look = c.in_ok-rank.ensures.lookup in
    let root : c.in_ok-rank.field-0.now ≡ rank_at ranks 1 = look.3.1 0 ∙ ap (λ (rs : List ℕ). rank_at rs 1) c.deref.ensures.value in
    let some_room : 0 < length timers = omega (arith, look.3.0, ap (λ (rs : List ℕ). length rs) c.deref.ensures.value, c.self.invariant.long) in
    let due : c.due_in.result ≡ rank_at ranks 1 / 2 ^ 64 = c.due_in.ensures ∙ ap (λ (rank : ℕ). rank / 2 ^ 64) root in
    let later = c.if-due_in-tick.true in
    ap (option_map (λ (timer : Timer). timer.work)) (sym (none-due timers ranks c.self.invariant some_room c.args.tick (omega (arith, due, later))) ∙ ap (λ (ts : List (Option Timer)). due_by c.args.tick (least_timer ts)) c.self.view_is)

pub returns-clause-first : goal.returns-clause-first
returns-clause-first c =
    let timers = c.self.inside.timers.items in
    let ranks = c.self.inside.ranks.items in
    let look = c.in_ok-rank.ensures.lookup in
    let root : c.in_ok-rank.field-0.now ≡ rank_at ranks 1 = look.3.1 0 ∙ ap (λ (rs : List ℕ). rank_at rs 1) c.deref.ensures.value in
    let some_room : 0 < length timers = omega (arith, look.3.0, ap (λ (rs : List ℕ). length rs) c.deref.ensures.value, c.self.invariant.long) in
    let least = c.if-rank-from.false in
    let has = has-root timers ranks c.self.invariant some_room (omega (arith, root, least, c.from.ensures)) in
    let work : c.work_in.result.0 ≡ rank_at ranks 1 % 2 ^ 16 = c.work_in.ensures ∙ ap (λ (rank : ℕ). rank % 2 ^ 16) root in
    let due : c.due_in.result ≡ rank_at ranks 1 / 2 ^ 64 = c.due_in.ensures ∙ ap (λ (rank : ℕ). rank / 2 ^ 64) root in
    let by_then = c.if-due_in-tick.false in
    root-due timers ranks c.self.invariant some_room c.args.tick c.work_in.result has (omega (arith, due, by_then)) work
    ∙ ap (λ (ts : List (Option Timer)). option_map (λ (timer : Timer). timer.work) (due_by c.args.tick (least_timer ts))) c.self.view_is

pub returns-clause-in_range : goal.returns-clause-in_range
returns-clause-in_range c =
    let timers = c.self.inside.timers.items in
    let ranks = c.self.inside.ranks.items in
    let look = c.in_ok-rank.ensures.lookup in
    let root : c.in_ok-rank.field-0.now ≡ rank_at ranks 1 = look.3.1 0 ∙ ap (λ (rs : List ℕ). rank_at rs 1) c.deref.ensures.value in
    let some_room : 0 < length timers = omega (arith, look.3.0, ap (λ (rs : List ℕ). length rs) c.deref.ensures.value, c.self.invariant.long) in
    let least = c.if-rank-from.false in
    let has = has-root timers ranks c.self.invariant some_room (omega (arith, root, least, c.from.ensures)) in
    let work : c.work_in.result.0 ≡ rank_at ranks 1 % 2 ^ 16 = c.work_in.ensures ∙ ap (λ (rank : ℕ). rank % 2 ^ 16) root in
    subst (λ (ts : List (Option Timer)). c.work_in.result.0 < length ts) c.self.view_is (subst (λ (w : ℕ). w < length timers) (sym work) has.inside)

pub returns-clause-own : goal.returns-clause-own
returns-clause-own c =
    let timers = c.self.inside.timers.items in
    let ranks = c.self.inside.ranks.items in
    let look = c.in_ok-rank.ensures.lookup in
    let root : c.in_ok-rank.field-0.now ≡ rank_at ranks 1 = look.3.1 0 ∙ ap (λ (rs : List ℕ). rank_at rs 1) c.deref.ensures.value in
    let some_room : 0 < length timers = omega (arith, look.3.0, ap (λ (rs : List ℕ). length rs) c.deref.ensures.value, c.self.invariant.long) in
    let least = c.if-rank-from.false in
    let has = has-root timers ranks c.self.invariant some_room (omega (arith, root, least, c.from.ensures)) in
    let work : c.work_in.result.0 ≡ rank_at ranks 1 % 2 ^ 16 = c.work_in.ensures ∙ ap (λ (rank : ℕ). rank % 2 ^ 16) root in
    ap (λ (ts : List (Option Timer)). is_some (timer_at ts c.work_in.result.0)) (sym c.self.view_is)
    ∙ ap (λ (w : ℕ). is_some (timer_at timers w)) work
    ∙ ap is_some has.there
