use Rattle.std.proofs.Common.{◌≡◌, ◌≢◌, ◌+◌, ◌%◌, ◌^◌, ◌<◌, ℕ, List, Option, None, length, set, arith, ap, subst, sym, ◌∙◌}
use Rattle.std.proofs.lemmas.List.{with_items_is}
use Rattle.cmwq_timers.specs.AlarmRanks.{no_alarm, with_front}
use Rattle.cmwq_timers.specs.Tree.{HasGiven, IsLeaf}
use Rattle.cmwq_timers.proofs.AlarmLemmas.{leaf-is, room}
use Rattle.cmwq_timers.proofs.FrontLemmas.{alarms-stopped_in_front, alarms-stopped_in_tree, kept-empty, kept-stopped_in_tree}
use Rattle.cmwq_timers.proofs.alarms.Alarms.stop.Goals as goal
use Rattle.cmwq_timers.proofs.alarms.Alarms.stop.Goals.{After-alarm_work, then-alarm_work-work, else-alarm_work-work}

-- the work's leaf has none
given : (ranks was now : List ℕ) (node leaf : ℕ) → was ≡ ranks → node ≡ leaf → HasGiven was now node no_alarm → HasGiven ranks now leaf no_alarm
given ranks was now node leaf was_is node_is is = subst (λ (ranks : List ℕ). HasGiven ranks now leaf no_alarm) was_is (subst (λ (node : ℕ). HasGiven was now node no_alarm) node_is is)

pub raise_alarm-requires-clause-leaf : goal.raise_alarm-requires-clause-leaf
raise_alarm-requires-clause-leaf c =
    let ticks = c.self.inside.ticks.items in
    let ranks = c.self.inside.ranks.items in
    let inside : c.args.work.0 < length ticks = omega (arith, c.requires.room, room ticks (with_front c.self.inside.front ranks) c.args.self.now c.self.view_is) in
    let leaf : c.len.result + c.from.result ≡ length ticks + c.args.work.0 = omega (arith, c.len.ensures, c.from.ensures) in
    subst (λ (rs : List ℕ). IsLeaf rs (c.len.result + c.from.result)) (sym c.deref_mut.ensures.value) (subst (IsLeaf ranks) (sym leaf) (leaf-is ticks ranks c.self.invariant.tree.few c.self.invariant.tree.long c.args.work.0 inside))

pub invariant_of-self : goal.invariant_of-self
invariant_of-self c =
    let front = c.self.inside.front in
    let ticks = c.self.inside.ticks.items in
    let ranks = c.self.inside.ranks.items in
    let work = c.args.work.0 in
    let inside : work < length ticks = omega (arith, c.requires.room, room ticks (with_front front ranks) c.args.self.now c.self.view_is) in
    elim c.if-alarm_work-work.branch [
      | then-alarm_work-work w ↦ rw (w.self-inside-is) (kept-empty ticks ranks c.self.invariant.tree)
      | else-alarm_work-work w ↦
          let leaf : w.len.result + w.from.result ≡ length ticks + work = omega (arith, w.len.ensures, w.from.ensures) in
          let items = with_items_is c.self.inside.ranks w.raise_alarm.new.ranks (w.raise_alarm.ensures.given.long ∙ w.deref_mut.ensures.len) in
          let apart : work ≢ front % 2 ^ 16 = λ same. w.if-alarm_work-work.false (c.alarm_work.ensures ∙ sym same) in
          rw (w.self-inside-is, items)
          (kept-stopped_in_tree front ticks ranks c.self.invariant work inside apart w.raise_alarm.new.ranks
          (given ranks w.deref_mut.result.now w.raise_alarm.new.ranks (w.len.result + w.from.result) (length ticks + work) w.deref_mut.ensures.value leaf w.raise_alarm.ensures.given) w.raise_alarm.ensures.tree)
    ]

pub returns : goal.returns
returns c =
    let front = c.self.inside.front in
    let ticks = c.self.inside.ticks.items in
    let ranks = c.self.inside.ranks.items in
    let work = c.args.work.0 in
    let inside : work < length ticks = omega (arith, c.requires.room, room ticks (with_front front ranks) c.args.self.now c.self.view_is) in
    let stopped = ap (λ (alarms : List (Option ℕ)). set alarms work None) c.self.view_is in
    elim c.if-alarm_work-work.branch [
      | then-alarm_work-work w ↦
          rw (w.self-inside-is) (alarms-stopped_in_front front ticks ranks c.self.invariant work inside (omega (arith, w.if-alarm_work-work.true, c.alarm_work.ensures)) ∙ stopped)
      | else-alarm_work-work w ↦
          let leaf : w.len.result + w.from.result ≡ length ticks + work = omega (arith, w.len.ensures, w.from.ensures) in
          let items = with_items_is c.self.inside.ranks w.raise_alarm.new.ranks (w.raise_alarm.ensures.given.long ∙ w.deref_mut.ensures.len) in
          let apart : work ≢ front % 2 ^ 16 = λ same. w.if-alarm_work-work.false (c.alarm_work.ensures ∙ sym same) in
          rw (w.self-inside-is, items)
          (alarms-stopped_in_tree front ticks ranks c.self.invariant work inside apart w.raise_alarm.new.ranks
          (given ranks w.deref_mut.result.now w.raise_alarm.new.ranks (w.len.result + w.from.result) (length ticks + work) w.deref_mut.ensures.value leaf w.raise_alarm.ensures.given) ∙ stopped)
    ]
