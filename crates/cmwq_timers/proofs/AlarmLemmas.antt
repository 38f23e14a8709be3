-- From ticks and ranks to alarms, and what a change of one leaf does to them.
use Rattle.std.proofs.Common.{◌≡◌, ◌≢◌, ℕ, ◌+◌, ◌-◌, ◌*◌, ◌/◌, ◌^◌, ◌<◌, Bool, false, cond, ◌==◌, List, length, max, get_or, set, replicate, Option, Some, None, arith, refl, sym, ap, subst, ◌∙◌, inl, inr}
use Rattle.std.proofs.lemmas.Bool.{cases_eq}
use Rattle.std.proofs.lemmas.Bool.Decides.{nat_tests}
use Rattle.std.proofs.lemmas.List.{ext_get_or, get_or-replicate, get_or_read, get_or-set_other, get_or-set_same, length-replicate, length-set}
use Rattle.std.proofs.lemmas.List.FromFn.{get_or-map-range_with_len, length-map-range_with_len}
use Rattle.cmwq_timers.specs.AlarmRanks.{IsAlarmTree, IsOwnRank, alarm_kept, alarm_rank, alarms_in, leaf_rank, no_alarm, tick_at}
use Rattle.cmwq_timers.specs.Alarms.{alarm_at, tick_or_0}
use Rattle.cmwq_timers.specs.Tree.{HasGiven, IsLeaf, IsTree, rank_at}

-- One alarm.

pub alarm_none : (tick rank : ℕ) → rank ≡ no_alarm → alarm_kept tick rank ≡ None
alarm_none tick rank is = ap (alarm_kept tick) is

pub alarm_some : (tick rank : ℕ) → rank ≢ no_alarm → alarm_kept tick rank ≡ Some tick
alarm_some tick rank some =
    let test : (rank == no_alarm) ≡ false = grind (arith, nat_tests) in
    ap (λ (b : Bool). cond b None (Some tick)) test

-- where it tells none, there is none
pub none_in : (tick rank : ℕ) → alarm_kept tick rank ≡ None → rank ≡ no_alarm
none_in tick rank is = elim (cases_eq rank no_alarm) [
  | inl same ↦ same
  | inr other ↦ absurd (let some = alarm_some tick rank other in cc)
]

-- and where it tells a tick, it is that which is kept
pub some_in : (kept rank tick : ℕ) → alarm_kept kept rank ≡ Some tick → (rank ≢ no_alarm) × (kept ≡ tick)
some_in kept rank tick is =
    let some : rank ≢ no_alarm = λ none. absurd (let gone = alarm_none kept rank none in cc) in
    (some, ap tick_or_0 (sym (alarm_some kept rank some) ∙ is))

-- an alarm has a lesser rank than none
pub before_none : (w tick : ℕ) → w < 2 ^ 16 - 1 → alarm_rank w tick < no_alarm
before_none w tick few = omega (arith, few)

-- The alarms.

abbrev each : List ℕ → List ℕ → ℕ → Option ℕ
each ticks ranks w = alarm_kept (tick_at ticks w) (leaf_rank ranks w)

pub alarms_long : (ticks ranks : List ℕ) → length (alarms_in ticks ranks) ≡ length ticks
alarms_long ticks ranks = length-map-range_with_len (each ticks ranks) 0 (length ticks)

pub alarm_is : (ticks ranks : List ℕ) (w : ℕ) → w < length ticks → alarm_at (alarms_in ticks ranks) w ≡ alarm_kept (tick_at ticks w) (leaf_rank ranks w)
alarm_is ticks ranks w inside = get_or-map-range_with_len (each ticks ranks) 0 (length ticks) w w None inside (omega arith)

-- as many as there are works
pub room : (ticks ranks : List ℕ) (alarms : List (Option ℕ)) → alarms_in ticks ranks ≡ alarms → length alarms ≡ length ticks
room ticks ranks alarms is = ap (λ (alarms : List (Option ℕ)). length alarms) (sym is) ∙ alarms_long ticks ranks

-- none at the start
module _ (n : ℕ) (ticks ranks : List ℕ) (few : n < 2 ^ 16) (ticks_are : ticks ≡ replicate n 0) (ranks_are : ranks ≡ replicate (2 * max n 1) no_alarm) where
  many : length ticks ≡ n
  many = ap length ticks_are ∙ length-replicate n 0

  long_new : length ranks ≡ 2 * max n 1
  long_new = ap length ranks_are ∙ length-replicate (2 * max n 1) no_alarm

  each_rank : (i : ℕ) → i < length ranks → rank_at ranks i ≡ no_alarm
  each_rank i inside = ap (λ (rs : List ℕ). rank_at rs i) ranks_are ∙ get_or-replicate (2 * max n 1) i no_alarm 0 (omega (arith, long_new, inside))

  pub kept-new : IsAlarmTree ticks ranks
  kept-new = record {
    few = omega (arith, few, many);
    long = omega (arith, long_new, many);
    own = λ w inside some. absurd (some (each_rank (length ranks / 2 + w) (omega (arith, inside))));
    tree = λ i above inside.
        let here = each_rank i (omega (arith, inside)) in
        let left = each_rank (2 * i) inside in
        let right = each_rank (2 * i + 1) (omega (arith, inside, long_new)) in
        omega (arith, here, left, right);
  }

  pub alarms-new : alarms_in ticks ranks ≡ replicate n None
  alarms-new =
      ext_get_or None (alarms_in ticks ranks) (replicate n None) (alarms_long ticks ranks ∙ many ∙ sym (length-replicate n None))
      (λ w below.
      let as_many = alarms_long ticks ranks in
      let inside : w < n = omega (arith, below, as_many, many) in
      alarm_is ticks ranks w (omega (arith, inside, many))
      ∙ alarm_none (tick_at ticks w) (leaf_rank ranks w) (each_rank (length ranks / 2 + w) (omega (arith, inside, long_new)))
      ∙ sym (get_or-replicate n w None None inside))

module _ (ticks ranks : List ℕ) (few : length ticks < 2 ^ 16) (long : length ranks ≡ 2 * max (length ticks) 1) where
  even : length ranks ≡ 2 * (length ranks / 2)
  even = omega (arith, long)

  -- The leaf of one work gets another rank.
  module _ (w : ℕ) (inside : w < length ticks) where
    pub half : length ranks / 2 ≡ length ticks
    half = omega (arith, long, inside)

    pub leaf-is : IsLeaf ranks (length ticks + w)
    leaf-is = record {
      even = even;
      above = omega (arith, long, inside);
      inside = omega (arith, long, inside);
    }

    pub leaf_here : leaf_rank ranks w ≡ rank_at ranks (length ticks + w)
    leaf_here = ap (λ (n : ℕ). rank_at ranks (n + w)) half

    pub leaf-read : (len rank : ℕ) → len ≡ length ticks → rank ≡ get_or ranks (len + w) rank → rank ≡ leaf_rank ranks w
    leaf-read len rank many read =
        let leaf = leaf-is in
        let below = leaf.inside in
        get_or_read ranks (len + w) rank (omega (arith, many, below)) read 0 ∙ ap (λ (n : ℕ). rank_at ranks (n + w)) many ∙ sym leaf_here

    module _ (new_ticks new_ranks : List ℕ) (rank : ℕ) (as_many : length new_ticks ≡ length ticks) (others : (v : ℕ) → v ≢ w → tick_at new_ticks v ≡ tick_at ticks v) (given : HasGiven ranks new_ranks (length ticks + w) rank) where
      as_long : length new_ranks ≡ length ranks
      as_long = given.long

      half_now : length new_ranks / 2 ≡ length ticks
      half_now = omega (arith, as_long, half)

      rank_here : leaf_rank new_ranks w ≡ rank
      rank_here = ap (λ (n : ℕ). rank_at new_ranks (n + w)) half_now ∙ given.here

      pub rank_other : (v : ℕ) → v ≢ w → leaf_rank new_ranks v ≡ leaf_rank ranks v
      rank_other v apart =
          ap (λ (n : ℕ). rank_at new_ranks (n + v)) half_now
          ∙ given.others (length ticks + v) (omega (arith, long, inside)) (λ same. absurd (apart (omega (arith, same))))
          ∙ ap (λ (n : ℕ). rank_at ranks (n + v)) (sym half)

      pub kept-with : ((v : ℕ) → v < length ranks / 2 → IsOwnRank ticks v (leaf_rank ranks v)) → IsTree new_ranks → IsOwnRank new_ticks w rank → IsAlarmTree new_ticks new_ranks
      kept-with was_own tree own = record {
        few = omega (arith, few, as_many);
        long = omega (arith, long, as_long, as_many);
        own = λ v v_inside. elim (cases_eq v w) [
          | inl same ↦ subst (λ (k : ℕ). IsOwnRank new_ticks k (leaf_rank new_ranks k)) (sym same) (subst (IsOwnRank new_ticks w) (sym rank_here) own)
          | inr other ↦
              let is = rank_other v other in
              λ some.
              let was = was_own v (omega (arith, v_inside, half_now, half)) (λ none. some (is ∙ none)) in
              (omega (arith, was.0, as_many), is ∙ was.1 ∙ ap (alarm_rank v) (sym (others v other)))
        ];
        tree = tree;
      }

      pub alarms-with : alarms_in new_ticks new_ranks ≡ set (alarms_in ticks ranks) w (alarm_kept (tick_at new_ticks w) rank)
      alarms-with =
          ext_get_or None (alarms_in new_ticks new_ranks) (set (alarms_in ticks ranks) w alarm) (alarms_long new_ticks new_ranks ∙ as_many ∙ sym (length-set (alarms_in ticks ranks) w alarm ∙ alarms_long ticks ranks)) by_work
        where
          alarm : Option ℕ
          alarm = alarm_kept (tick_at new_ticks w) rank

          by_work : (v : ℕ) → v < length (alarms_in new_ticks new_ranks) → alarm_at (alarms_in new_ticks new_ranks) v ≡ alarm_at (set (alarms_in ticks ranks) w alarm) v
          by_work v below =
              let many_now = alarms_long new_ticks new_ranks in
              let many = alarms_long ticks ranks in
              let here = alarm_is new_ticks new_ranks v (omega (arith, below, many_now)) in
              elim (cases_eq v w) [
                | inl same ↦
                    here ∙ ap (λ (k : ℕ). alarm_kept (tick_at new_ticks k) (leaf_rank new_ranks k)) same ∙ ap (alarm_kept (tick_at new_ticks w)) rank_here
                    ∙ sym (ap (alarm_at (set (alarms_in ticks ranks) w alarm)) same ∙ get_or-set_same (alarms_in ticks ranks) w alarm None (omega (arith, inside, many)))
                | inr other ↦
                    here ∙ ap (λ (tick : ℕ). alarm_kept tick (leaf_rank new_ranks v)) (others v other) ∙ ap (alarm_kept (tick_at ticks v)) (rank_other v other)
                    ∙ sym (alarm_is ticks ranks v (omega (arith, below, many_now, as_many)))
                    ∙ sym (get_or-set_other (alarms_in ticks ranks) w v alarm None other)
              ]

    -- set to a tick
    pub alarms-set : (tick : ℕ) (new_ranks : List ℕ) → HasGiven ranks new_ranks (length ticks + w) (alarm_rank w tick) → alarms_in (set ticks w tick) new_ranks ≡ set (alarms_in ticks ranks) w (Some tick)
    alarms-set tick new_ranks given =
        let less = before_none w tick (omega (arith, inside, few)) in
        let tick_here : tick_at (set ticks w tick) w ≡ tick = get_or-set_same ticks w tick 0 inside in
        alarms-with (set ticks w tick) new_ranks (alarm_rank w tick) (length-set ticks w tick) (λ v other. get_or-set_other ticks w v tick 0 other) given
        ∙ ap (set (alarms_in ticks ranks) w) (alarm_some (tick_at (set ticks w tick) w) (alarm_rank w tick) (λ none. absurd (omega (arith, less, none))) ∙ ap Some tick_here)

    -- stopped
    pub alarms-stopped : (new_ranks : List ℕ) → HasGiven ranks new_ranks (length ticks + w) no_alarm → alarms_in ticks new_ranks ≡ set (alarms_in ticks ranks) w None
    alarms-stopped new_ranks given = alarms-with ticks new_ranks no_alarm refl (λ v other. refl) given ∙ ap (set (alarms_in ticks ranks) w) (alarm_none (tick_at ticks w) no_alarm refl)
