use Rattle.std.proofs.Common.{◌≡◌, ◌+◌, ◌<◌, ◌==◌, true, ℕ, List, Option, None, Some, length, set, arith, ap, subst, sym, ◌∙◌}
use Rattle.std.proofs.lemmas.Bool.Decides.{nat_tests}
use Rattle.std.proofs.lemmas.List.{with_items_is}
use Rattle.cmwq_timers.specs.AlarmRanks.{alarm_rank, alarms_in, no_alarm, with_front}
use Rattle.cmwq_timers.specs.Alarms.{alarm_at}
use Rattle.cmwq_timers.specs.Tree.{HasGiven, IsLeaf, rank_at}
use Rattle.cmwq_timers.proofs.AlarmLemmas.{leaf-is, room}
use Rattle.cmwq_timers.proofs.FrontLemmas.{absent-apart, alarms-set_in_front, alarms-set_in_tree, kept-set_in_front, kept-set_in_tree, rank-lesser}
use Rattle.cmwq_timers.proofs.alarms.Alarms.set.Goals as goal
use Rattle.cmwq_timers.proofs.alarms.Alarms.set.Goals.{Joined-goes_in_front, then-front, else-front, then-goes_in_front, else-goes_in_front}

pub index_mut-requires : goal.index_mut-requires
index_mut-requires c = omega (arith, c.requires.room, c.from-at.ensures, room c.self.inside.ticks.items (with_front c.self.inside.front c.self.inside.ranks.items) c.args.self.now c.self.view_is, c.self.inside.ticks.ok.0)

pub lower_alarm-requires-clause-leaf : goal.lower_alarm-requires-clause-leaf
lower_alarm-requires-clause-leaf c =
    let ticks = c.self.inside.ticks.items in
    let ranks = c.self.inside.ranks.items in
    let inside : c.args.work.0 < length ticks = omega (arith, c.requires.room, room ticks (with_front c.self.inside.front ranks) c.args.self.now c.self.view_is) in
    let leaf : c.len.result + c.from-at.result ≡ length ticks + c.args.work.0 = omega (arith, c.len.ensures, c.from-at.ensures) in
    subst (λ (rs : List ℕ). IsLeaf rs (c.len.result + c.from-at.result)) (sym c.deref_mut.ensures.value) (subst (IsLeaf ranks) (sym leaf) (leaf-is ticks ranks c.self.invariant.tree.few c.self.invariant.tree.long c.args.work.0 inside))

pub lower_alarm-requires-clause-lesser : goal.lower_alarm-requires-clause-lesser
lower_alarm-requires-clause-lesser c =
    let ticks = c.self.inside.ticks.items in
    let ranks = c.self.inside.ranks.items in
    let inside : c.args.work.0 < length ticks = omega (arith, c.requires.room, room ticks (with_front c.self.inside.front ranks) c.args.self.now c.self.view_is) in
    let leaf : c.len.result + c.from-at.result ≡ length ticks + c.args.work.0 = omega (arith, c.len.ensures, c.from-at.ensures) in
    let absent : alarm_at (alarms_in ticks (with_front c.self.inside.front ranks)) c.args.work.0 ≡ None = ap (λ (alarms : List (Option ℕ)). alarm_at alarms c.args.work.0) c.self.view_is ∙ c.requires.absent in
    let less = rank-lesser c.self.inside.front ticks ranks c.self.invariant c.args.work.0 inside absent c.args.tick in
    let here : rank_at c.deref_mut.result.now (c.len.result + c.from-at.result) ≡ rank_at ranks (length ticks + c.args.work.0) = ap (λ (rs : List ℕ). rank_at rs (c.len.result + c.from-at.result)) c.deref_mut.ensures.value ∙ ap (rank_at ranks) leaf in
    omega (arith, less, here, c.alarm_rank-rank.ensures)

equal : (m n : ℕ) → (m == n) ≡ true → m ≡ n
equal m n same = grind (arith, nat_tests)

-- where it goes in front, none stands there
free : (c : Joined-goes_in_front) → c.if-front.goes_in_front ≡ true → c.self.inside.front ≡ no_alarm
free c goes = elim c.if-front.branch [
  | then-front w ↦ w.if-front.true
  | else-front w ↦ equal c.self.inside.front no_alarm (sym w.goes_in_front-is ∙ goes)
]

-- else its leaf has its rank
given : (ranks was now : List ℕ) (node leaf rank is : ℕ) → was ≡ ranks → node ≡ leaf → rank ≡ is → HasGiven was now node rank → HasGiven ranks now leaf is
given ranks was now node leaf rank is was_is node_is rank_is has =
    subst (HasGiven ranks now leaf) rank_is (subst (λ (ranks : List ℕ). HasGiven ranks now leaf rank) was_is (subst (λ (node : ℕ). HasGiven was now node rank) node_is has))

pub invariant_of-self : goal.invariant_of-self
invariant_of-self c =
    let front = c.self.inside.front in
    let ticks = c.self.inside.ticks.items in
    let ranks = c.self.inside.ranks.items in
    let work = c.args.work.0 in
    let tick = c.args.tick in
    let inside : work < length ticks = omega (arith, c.requires.room, room ticks (with_front front ranks) c.args.self.now c.self.view_is) in
    let absent : alarm_at (alarms_in ticks (with_front front ranks)) work ≡ None = ap (λ (alarms : List (Option ℕ)). alarm_at alarms work) c.self.view_is ∙ c.requires.absent in
    elim c.if-goes_in_front.branch [
      | then-goes_in_front w ↦
          rw (w.self-inside-is, c.alarm_rank-rank.ensures, c.from-at.ensures) (kept-set_in_front front ticks ranks c.self.invariant work inside absent tick (free c w.if-goes_in_front.true))
      | else-goes_in_front w ↦
          let now = w.lower_alarm.new.ranks in
          let leaf : w.len.result + c.from-at.result ≡ length ticks + work = omega (arith, w.len.ensures, c.from-at.ensures) in
          let items = with_items_is c.self.inside.ranks now (w.lower_alarm.ensures.given.long ∙ w.deref_mut.ensures.len) in
          let has =
          given ranks w.deref_mut.result.now now (w.len.result + c.from-at.result) (length ticks + work) c.alarm_rank-rank.result (alarm_rank work tick) w.deref_mut.ensures.value leaf
          c.alarm_rank-rank.ensures w.lower_alarm.ensures.given
          in
          rw (w.self-inside-is, items, c.from-at.ensures)
          (kept-set_in_tree front ticks ranks c.self.invariant work inside (absent-apart front ticks ranks c.self.invariant work inside absent) tick now has w.lower_alarm.ensures.tree)
    ]

pub returns : goal.returns
returns c =
    let front = c.self.inside.front in
    let ticks = c.self.inside.ticks.items in
    let ranks = c.self.inside.ranks.items in
    let work = c.args.work.0 in
    let tick = c.args.tick in
    let inside : work < length ticks = omega (arith, c.requires.room, room ticks (with_front front ranks) c.args.self.now c.self.view_is) in
    let absent : alarm_at (alarms_in ticks (with_front front ranks)) work ≡ None = ap (λ (alarms : List (Option ℕ)). alarm_at alarms work) c.self.view_is ∙ c.requires.absent in
    let is_set = ap (λ (alarms : List (Option ℕ)). set alarms work (Some tick)) c.self.view_is in
    elim c.if-goes_in_front.branch [
      | then-goes_in_front w ↦ record {
        set =
            rw (w.self-inside-is, c.alarm_rank-rank.ensures, c.from-at.ensures)
            (alarms-set_in_front front ticks ranks c.self.invariant work inside absent tick (free c w.if-goes_in_front.true) ∙ is_set);
      }
      | else-goes_in_front w ↦
          let now = w.lower_alarm.new.ranks in
          let leaf : w.len.result + c.from-at.result ≡ length ticks + work = omega (arith, w.len.ensures, c.from-at.ensures) in
          let items = with_items_is c.self.inside.ranks now (w.lower_alarm.ensures.given.long ∙ w.deref_mut.ensures.len) in
          let has =
          given ranks w.deref_mut.result.now now (w.len.result + c.from-at.result) (length ticks + work) c.alarm_rank-rank.result (alarm_rank work tick) w.deref_mut.ensures.value leaf
          c.alarm_rank-rank.ensures w.lower_alarm.ensures.given
          in
          record {
            set =
                rw (w.self-inside-is, items, c.from-at.ensures)
                (alarms-set_in_tree front ticks ranks c.self.invariant work inside (absent-apart front ticks ranks c.self.invariant work inside absent) tick now has ∙ is_set);
          }
    ]
