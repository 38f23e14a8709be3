-- From the first rank to the alarm that rings first.
use Rattle.std.proofs.Common.{◌≡◌, ℕ, ◌*◌, ◌/◌, ◌%◌, ◌^◌, ◌<◌, ◌≤◌, Bool, true, false, cond, List, length, Option, Some, None, is_some, arith, refl, sym, ap, ◌∙◌}
use Rattle.std.specs.Prelude.{nat_le}
use Rattle.std.proofs.lemmas.Bool.Decides.{nat_tests}
use Rattle.cmwq_types.specs.First.{MatchFirst, by_least}
use Rattle.cmwq_types.proofs.FirstLemmas.{by_least-order, first_below-is_first, first_below-none, first_below-unique}
use Rattle.cmwq_timers.specs.AlarmRanks.{IsFirstRank, alarm_rank, first_late_tick, no_alarm}
use Rattle.cmwq_timers.specs.Alarms.{alarm_at, first_to_ring, if_rings_by, ring_of, tick_or_0}
use Rattle.cmwq_timers.proofs.AlarmLemmas.{before_none}

-- whether one that rings at a tick rings by another
not_by : (tick by : ℕ) → by < tick → nat_le tick by ≡ false
not_by tick by later = grind (arith, nat_tests)

is_by : (tick by : ℕ) → tick ≤ by → nat_le tick by ≡ true
is_by tick by no_later = grind (arith, nat_tests)

-- one that there is rings at some tick
at_tick : (alarm : Option ℕ) → is_some alarm ≡ true → alarm ≡ Some (tick_or_0 alarm)
at_tick None has = absurd (cc)
at_tick (Some tick) has = refl

module _ (alarms : List (Option ℕ)) (rank : ℕ) (few : length alarms < 2 ^ 16) (is : IsFirstRank alarms rank) where
  abbrev has_alarm : ℕ → Bool
  has_alarm w = is_some (alarm_at alarms w)

  abbrev tick_of : ℕ → ℕ
  tick_of w = tick_or_0 (alarm_at alarms w)

  no_lesser : (w : ℕ) → has_alarm w ≡ true → rank ≤ alarm_rank w (tick_of w)
  no_lesser w has = is.least w (tick_of w) (at_tick (alarm_at alarms w) has)

  -- none rings before the tick in it
  pub none-by : (tick : ℕ) → tick < rank / 2 ^ 16 → if_rings_by alarms tick (first_to_ring alarms) ≡ None
  none-by tick before = by_first (first_to_ring alarms) (first_below-is_first (by_least tick_of) has_alarm (length alarms) (by_least-order tick_of))
    where
      by_first : (o : Option ℕ) → MatchFirst (by_least tick_of) has_alarm (length alarms) o → if_rings_by alarms tick o ≡ None
      by_first None none = refl
      by_first (Some w) first =
          let inside = first.in_range in
          let later = no_lesser w first.passes in
          let no_sooner : tick < tick_of w = omega (arith, before, later, inside, few) in
          ap (λ (b : Bool). cond b (Some w) None) (not_by (tick_of w) tick no_sooner)

  -- where it is that of no alarm, there is none
  pub none-first : rank ≡ no_alarm → first_to_ring alarms ≡ None
  none-first none = first_below-none (by_least tick_of) has_alarm (length alarms) (by_least-order tick_of) (λ w inside. silent w inside (has_alarm w) refl)
    where
      silent : (w : ℕ) → w < length alarms → (b : Bool) → has_alarm w ≡ b → has_alarm w ≡ false
      silent w inside false e = e
      silent w inside true e =
          let later = no_lesser w e in
          let less = before_none w (tick_of w) (omega (arith, inside, few)) in
          absurd (omega (arith, none, later, less))

  -- Where it has its tick whole, the work in it has the first.
  module _ (whole : rank < first_late_tick * 2 ^ 16) where
    rings : alarm_at alarms (rank % 2 ^ 16) ≡ Some (rank / 2 ^ 16)
    rings = (is.whole whole).rings

    its_tick : tick_of (rank % 2 ^ 16) ≡ rank / 2 ^ 16
    its_tick = ap tick_or_0 rings

    first : first_to_ring alarms ≡ Some (rank % 2 ^ 16)
    first =
        let tick = its_tick in
        first_below-unique (by_least tick_of) has_alarm (length alarms) (rank % 2 ^ 16) (by_least-order tick_of) (is.whole whole).inside (ap is_some rings)
        (λ k lower has.
        let later = no_lesser k has in
        let sooner : tick_of (rank % 2 ^ 16) < tick_of k = omega (arith, tick, lower, later, whole) in
        grind (arith, nat_tests))
        (λ k inside has.
        let later = no_lesser k has in
        let no_later : tick_of (rank % 2 ^ 16) ≤ tick_of k = omega (arith, tick, inside, few, later, whole) in
        grind (arith, nat_tests))

    pub rings-by : (tick : ℕ) → rank / 2 ^ 16 ≤ tick → Some (rank % 2 ^ 16) ≡ if_rings_by alarms tick (first_to_ring alarms)
    rings-by tick by_then =
        sym (
        ap (if_rings_by alarms tick) first
        ∙ ap (λ (o : Option ℕ). cond (nat_le (tick_or_0 o) tick) (Some (rank % 2 ^ 16)) None) rings
        ∙ ap (λ (b : Bool). cond b (Some (rank % 2 ^ 16)) None) (is_by (rank / 2 ^ 16) tick by_then)
        )

    pub next-is : Some (rank / 2 ^ 16) ≡ ring_of alarms (first_to_ring alarms)
    next-is = sym (ap (ring_of alarms) first ∙ rings)
