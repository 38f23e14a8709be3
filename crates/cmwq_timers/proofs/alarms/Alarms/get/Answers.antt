use Rattle.std.proofs.Common.{◌≡◌, ◌≢◌, ◌%◌, ◌^◌, ◌<◌, List, Option, ℕ, Some, length, arith, ap, sym, ◌∙◌}
use Rattle.std.proofs.lemmas.List.{get_or_read}
use Rattle.cmwq_timers.specs.AlarmRanks.{alarms_in, tick_at, with_front}
use Rattle.cmwq_timers.specs.Alarms.{alarm_at}
use Rattle.cmwq_timers.proofs.AlarmLemmas.{leaf-read, room}
use Rattle.cmwq_timers.proofs.FrontLemmas.{get-front, get-none, get-tree}
use Rattle.cmwq_timers.proofs.alarms.Alarms.get.Goals as goal
use Rattle.cmwq_timers.proofs.alarms.Alarms.get.Goals.{else-index-via-then-index+else-from-w, else-index-via-else-index}

pub overflow_add-len : goal.overflow_add-len
overflow_add-len c =
    omega (arith, c.requires.work, c.len.ensures, room c.self.inside.ticks.items (with_front c.self.inside.front c.self.inside.ranks.items) c.args.self.now c.self.view_is, c.self.invariant.tree.few)

pub index-requires : goal.index-requires
index-requires c =
    omega (arith, c.requires.work, c.len.ensures, room c.self.inside.ticks.items (with_front c.self.inside.front c.self.inside.ranks.items) c.args.self.now c.self.view_is, c.self.invariant.tree.long, c.self.inside.ranks.ok.0)

pub returns-then-from-w : goal.returns-then-from-w
returns-then-from-w c =
    let front = c.self.inside.front in
    let ticks = c.self.inside.ticks.items in
    let ranks = c.self.inside.ranks.items in
    let inside : c.args.w < length ticks = omega (arith, c.requires.work, room ticks (with_front front ranks) c.args.self.now c.self.view_is) in
    let read = leaf-read ticks ranks c.self.invariant.tree.few c.self.invariant.tree.long c.args.w inside c.len.result c.index.result.now (omega (arith, c.len.ensures)) c.index.ensures in
    let apart : c.args.w ≢ front % 2 ^ 16 = λ same. c.if-from-w.true (c.from.ensures ∙ c.alarm_work.ensures ∙ sym same) in
    sym (get-none front ticks ranks c.self.invariant c.args.w inside (sym read ∙ c.if-index.true) apart) ∙ ap (λ (alarms : List (Option ℕ)). alarm_at alarms c.args.w) c.self.view_is

pub index-requires-2 : goal.index-requires-2
index-requires-2 c = omega (arith, c.requires.work, room c.self.inside.ticks.items (with_front c.self.inside.front c.self.inside.ranks.items) c.args.self.now c.self.view_is, c.self.inside.ticks.ok.0)

pub returns : goal.returns
returns c =
    let front = c.self.inside.front in
    let ticks = c.self.inside.ticks.items in
    let ranks = c.self.inside.ranks.items in
    let inside : c.args.w < length ticks = omega (arith, c.requires.work, room ticks (with_front front ranks) c.args.self.now c.self.view_is) in
    let read = leaf-read ticks ranks c.self.invariant.tree.few c.self.invariant.tree.long c.args.w inside c.len.result c.index.result.now (omega (arith, c.len.ensures)) c.index.ensures in
    let tick : c.index-2.result.now ≡ tick_at ticks c.args.w = get_or_read ticks c.args.w c.index-2.result.now inside c.index-2.ensures 0 in
    let alarm : alarm_at (alarms_in ticks (with_front front ranks)) c.args.w ≡ Some (tick_at ticks c.args.w) =
    elim c.else-index.branch [
      | else-index-via-then-index+else-from-w w ↦ get-front front ticks ranks c.self.invariant c.args.w inside (omega (arith, w.if-from-w.false, w.from.ensures, w.alarm_work.ensures))
      | else-index-via-else-index w ↦ get-tree front ticks ranks c.self.invariant c.args.w inside (λ none. w.if-index.false (read ∙ none))
    ]
    in
    ap Some tick ∙ sym alarm ∙ ap (λ (alarms : List (Option ℕ)). alarm_at alarms c.args.w) c.self.view_is
