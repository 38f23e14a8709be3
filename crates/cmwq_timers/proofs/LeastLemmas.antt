-- From the root's rank to the timer that fires first.
use Rattle.std.proofs.Common.{◌≡◌, ◌≢◌, ℕ, ◌+◌, ◌-◌, ◌*◌, ◌/◌, ◌%◌, ◌^◌, ◌<◌, ◌≤◌, Bool, true, false, ◌||◌, ◌&&◌, ◌==◌, nat_lt, List, length, Option, Some, None, is_some, IfSome, arith, refl, sym, ap, subst, ◌∙◌, inl, inr}
use Rattle.std.proofs.lemmas.Bool.{cases_lt}
use Rattle.std.proofs.lemmas.Bool.Decides.{nat_tests}
use Rattle.std.proofs.lemmas.List.{get_or_past}
use Rattle.std.specs.Prelude.{option_map}
use Rattle.cmwq_types.specs.First.{MatchFirst}
use Rattle.cmwq_types.specs.declared.instr.WorkId.{WorkId}
use Rattle.cmwq_types.proofs.FirstLemmas.{by_least_two-order, first_below-is_first, first_below-unique, first_below-none}
use Rattle.cmwq_timers.specs.declared.timer.Timer.{Timer}
use Rattle.cmwq_timers.specs.Timers.{due_by, timer_at, timer_due, timer_stamp, fires_before, first_to_fire, least_timer, timer_found}
use Rattle.cmwq_timers.specs.Tree.{IsKept, IsOwn, last_stamp, rank_at, rank_of}
use Rattle.cmwq_timers.proofs.TreeLemmas.{root_leaf, root_least}

-- Ranks beside timers.

-- the work stands in the rank
work_in : (t : Timer) (w : ℕ) → IsOwn w t → w < 2 ^ 16 → rank_of (Some t) % 2 ^ 16 ≡ w
work_in t w own few =
    let is = own.work_is in
    omega (arith, is, few)

-- and when it is due
due_in : (t : Timer) (w : ℕ) → IsOwn w t → w < 2 ^ 16 → rank_of (Some t) / 2 ^ 64 ≡ t.due
due_in t w own few =
    let is = own.work_is in
    omega (arith, is, few)

-- no timer has the rank of none
before_none : (t : Timer) (w : ℕ) → IsOwn w t → w < 2 ^ 16 - 1 → rank_of (Some t) < rank_of None
before_none t w own few =
    let is = own.work_is in
    let due = own.due in
    omega (arith, is, few, due)

abbrev fires : Timer → Timer → Bool
fires a b = nat_lt a.due b.due || ((a.due == b.due) && nat_lt a.stamp b.stamp)

-- where one's stamp stands whole in its rank, timers of no lesser rank don't fire before it, and those of lesser works fire after it
fires_not_before : (r t : Timer) (w v : ℕ) → IsOwn w r → IsOwn v t → w < 2 ^ 16 → v < 2 ^ 16 → r.stamp < last_stamp → rank_of (Some r) ≤ rank_of (Some t) → fires t r ≡ false
fires_not_before r t w v own_r own_t few_r few_t whole later =
    let r_is = own_r.work_is in
    let t_is = own_t.work_is in
    let due : r.due ≤ t.due = omega (arith, r_is, t_is, few_r, few_t, whole, later) in
    let stamp : t.due ≤ r.due → r.stamp ≤ t.stamp = λ same. omega (arith, r_is, t_is, few_r, few_t, whole, later, same) in
    elim (cases_lt r.due t.due) [
      | inl less ↦ grind (arith, nat_tests)
      | inr same ↦ (let no_less = stamp same in grind (arith, nat_tests))
    ]

fires_after : (r t : Timer) (w v : ℕ) → IsOwn w r → IsOwn v t → w < 2 ^ 16 → v < w → r.stamp < last_stamp → rank_of (Some r) ≤ rank_of (Some t) → fires r t ≡ true
fires_after r t w v own_r own_t few lower whole later =
    let r_is = own_r.work_is in
    let t_is = own_t.work_is in
    let due : r.due ≤ t.due = omega (arith, r_is, t_is, few, lower, whole, later) in
    let stamp : t.due ≤ r.due → r.stamp < t.stamp = λ same. omega (arith, r_is, t_is, few, lower, whole, later, same) in
    elim (cases_lt r.due t.due) [
      | inl less ↦ grind (arith, nat_tests)
      | inr same ↦ (let less = stamp same in grind (arith, nat_tests))
    ]

-- what doesn't fire before another is due no sooner
due_no_sooner : (r t : Timer) → fires r t ≡ false → t.due ≤ r.due
due_no_sooner r t later =
    elim (cases_lt r.due t.due) [
      | inl less ↦ absurd (grind (arith, nat_tests))
      | inr same ↦ same
    ]

-- one that isn't due by the tick
not_due : (tick : ℕ) (t : Timer) → tick < t.due → due_by tick (Some t) ≡ None
not_due tick t later = grind (arith, nat_tests)

-- one that is
is_due : (tick : ℕ) (t : Timer) → t.due ≤ tick → due_by tick (Some t) ≡ Some t
is_due tick t by_then = grind (arith, nat_tests)

-- the work of a number
abbrev work_of : ℕ → WorkId
work_of w = record { 0 = w }

-- a work that has a timer
record HasOwn (timers : List (Option Timer)) (w : ℕ) : Type 0 where
  timer : Timer
  is : timer_at timers w ≡ Some timer
  own : IsOwn w timer

has_own : (timers : List (Option Timer)) (w : ℕ) → IfSome (timer_at timers w) (IsOwn w) → is_some (timer_at timers w) ≡ true → HasOwn timers w
has_own timers w own has = by_cases (timer_at timers w) refl own has
  where
    by_cases : (o : Option Timer) → timer_at timers w ≡ o → IfSome o (IsOwn w) → is_some o ≡ true → HasOwn timers w
    by_cases None is own has = absurd (cc)
    by_cases (Some t) is own has = record { timer = t; is = is; own = own }

-- a node has the rank of a work's timer
record IsOfWork (timers : List (Option Timer)) (ranks : List ℕ) (node : ℕ) : Type 0 where
  work : ℕ
  inside : work < length timers
  is : rank_at ranks node ≡ rank_of (timer_at timers work)

module _ (timers : List (Option Timer)) (ranks : List ℕ) (kept : IsKept timers ranks) where
  long : length ranks ≡ 2 * length timers
  long = kept.long

  few : length timers < 2 ^ 16
  few = kept.few

  half : length ranks / 2 ≡ length timers
  half = omega (arith, long)

  even : length ranks ≡ 2 * (length ranks / 2)
  even = omega (arith, long)

  leaf_is : (w : ℕ) → w < length timers → rank_at ranks (length ranks / 2 + w) ≡ rank_of (timer_at timers w)
  leaf_is w inside = ap (λ (n : ℕ). rank_at ranks (n + w)) half ∙ kept.leaves w inside

  root_before : (w : ℕ) → w < length timers → rank_at ranks 1 ≤ rank_of (timer_at timers w)
  root_before w inside =
      let least = root_least ranks even kept.tree w (omega (arith, inside, half)) in
      let leaf = leaf_is w inside in
      omega (arith, least, leaf)

  module _ (some_room : 0 < length timers) where
    root : IsOfWork timers ranks 1
    root =
        let found = root_leaf ranks even kept.tree (omega (arith, some_room, half)) in
        let below = found.inside in
        let inside : found.leaf < length timers = omega (arith, below, half) in
        record { work = found.leaf; inside = inside; is = found.is ∙ leaf_is found.leaf inside }

    -- where the root has the rank of no timer, there is none
    none_is : rank_at ranks 1 ≡ rank_of None → least_timer timers ≡ None
    none_is none =
        ap (timer_found timers) (first_below-none (fires_before timers) (λ w. is_some (timer_at timers w)) (length timers)
        (by_least_two-order (λ w. timer_due (timer_at timers w)) (λ w. timer_stamp (timer_at timers w)))
        (λ k inside. no_timer k inside (is_some (timer_at timers k)) refl))
      where
        no_timer : (k : ℕ) → k < length timers → (b : Bool) → is_some (timer_at timers k) ≡ b → is_some (timer_at timers k) ≡ false
        no_timer k inside false e = e
        no_timer k inside true e =
            let other = has_own timers k (kept.own k inside) e in
            let before = before_none other.timer k other.own (omega (arith, inside, few)) in
            let later : rank_at ranks 1 ≤ rank_of (Some other.timer) = subst (λ (o : Option Timer). rank_at ranks 1 ≤ rank_of o) other.is (root_before k inside) in
            absurd (omega (arith, none, before, later))

    -- where it has that of a timer whose stamp stands whole in it, that one fires first
    first_is : (w : ℕ) (r : Timer) → w < length timers → timer_at timers w ≡ Some r → rank_at ranks 1 ≡ rank_of (Some r) → r.stamp < last_stamp → first_to_fire timers ≡ Some w
    first_is w r inside is least whole =
        first_below-unique (fires_before timers) (λ w. is_some (timer_at timers w)) (length timers) w (by_least_two-order (λ w. timer_due (timer_at timers w)) (λ w. timer_stamp (timer_at timers w))) inside (rw is refl)
        (λ k lower has.
        let k_inside : k < length timers = omega (arith, lower, inside) in
        let other = has_own timers k (kept.own k k_inside) has in
        rw (is, other.is) (fires_after r other.timer w k own other.own (omega (arith, inside, few)) lower whole (later k other.timer k_inside other.is)))
        (λ k k_inside has.
        let other = has_own timers k (kept.own k k_inside) has in
        rw (is, other.is) (fires_not_before r other.timer w k own other.own (omega (arith, inside, few)) (omega (arith, k_inside, few)) whole (later k other.timer k_inside other.is)))
      where
        own : IsOwn w r
        own = subst (λ (o : Option Timer). IfSome o (IsOwn w)) is (kept.own w inside)

        later : (k : ℕ) (t : Timer) → k < length timers → timer_at timers k ≡ Some t → rank_of (Some r) ≤ rank_of (Some t)
        later k t k_inside t_is = subst (λ (rank : ℕ). rank ≤ rank_of (Some t)) least (subst (λ (o : Option Timer). rank_at ranks 1 ≤ rank_of o) t_is (root_before k k_inside))

    -- The work that stands in the root's rank: where it has no timer, there is none.
    pub least-none : timer_at timers (rank_at ranks 1 % 2 ^ 16) ≡ None → least_timer timers ≡ None
    least-none none = by_cases (timer_at timers root.work) refl
      where
        by_cases : (o : Option Timer) → timer_at timers root.work ≡ o → least_timer timers ≡ None
        by_cases None is = none_is (root.is ∙ ap rank_of is)
        by_cases (Some r) is =
            let own : IsOwn root.work r = subst (λ (o : Option Timer). IfSome o (IsOwn root.work)) is (kept.own root.work root.inside) in
            let root_inside = root.inside in
            let here : rank_at ranks 1 % 2 ^ 16 ≡ root.work = ap (λ (rank : ℕ). rank % 2 ^ 16) (root.is ∙ ap rank_of is) ∙ work_in r root.work own (omega (arith, root_inside, few)) in
            let no_timer : timer_at timers root.work ≡ None = ap (timer_at timers) (sym here) ∙ none in
            absurd (cc)

    -- where its timer's stamp stands whole in the rank, that one fires first
    pub least-some : (t : Timer) → timer_at timers (rank_at ranks 1 % 2 ^ 16) ≡ Some t → t.stamp < last_stamp → least_timer timers ≡ Some t
    least-some t is whole = by_cases (timer_at timers root.work) refl
      where
        by_cases : (o : Option Timer) → timer_at timers root.work ≡ o → least_timer timers ≡ Some t
        by_cases None none =
            let here : rank_at ranks 1 % 2 ^ 16 ≡ 65535 = ap (λ (rank : ℕ). rank % 2 ^ 16) (root.is ∙ ap rank_of none) in
            let no_timer : timer_at timers 65535 ≡ None = get_or_past timers 65535 None (omega (arith, few)) in
            let nothing : timer_at timers (rank_at ranks 1 % 2 ^ 16) ≡ None = ap (timer_at timers) here ∙ no_timer in
            absurd (cc)
        by_cases (Some r) found =
            let own : IsOwn root.work r = subst (λ (o : Option Timer). IfSome o (IsOwn root.work)) found (kept.own root.work root.inside) in
            let root_inside = root.inside in
            let rank = root.is ∙ ap rank_of found in
            let here : rank_at ranks 1 % 2 ^ 16 ≡ root.work = ap (λ (rank : ℕ). rank % 2 ^ 16) rank ∙ work_in r root.work own (omega (arith, root_inside, few)) in
            let same : Some r ≡ Some t = sym found ∙ ap (timer_at timers) (sym here) ∙ is in
            let r_is : r ≡ t = cc in
            let r_whole : r.stamp < last_stamp = subst (λ (x : Timer). x.stamp < last_stamp) (sym r_is) whole in
            ap (timer_found timers) (first_is root.work r root_inside found rank r_whole) ∙ found ∙ same

    -- None is due before the tick that stands in the root's rank.
    pub none-due : (tick : ℕ) → tick < rank_at ranks 1 / 2 ^ 64 → due_by tick (least_timer timers) ≡ None
    none-due tick before =
        by_first (first_to_fire timers) (first_below-is_first (fires_before timers) (λ w. is_some (timer_at timers w)) (length timers)
        (by_least_two-order (λ w. timer_due (timer_at timers w)) (λ w. timer_stamp (timer_at timers w))))
      where
        by_first : (o : Option ℕ) → MatchFirst (fires_before timers) (λ w. is_some (timer_at timers w)) (length timers) o → due_by tick (timer_found timers o) ≡ None
        by_first None none = refl
        by_first (Some w) first =
            let inside = first.in_range in
            let own = has_own timers w (kept.own w inside) first.passes in
            let later : rank_at ranks 1 ≤ rank_of (Some own.timer) = subst (λ (o : Option Timer). rank_at ranks 1 ≤ rank_of o) own.is (root_before w inside) in
            let due = due_in own.timer w own.own (omega (arith, inside, few)) in
            ap (due_by tick) own.is ∙ not_due tick own.timer (omega (arith, before, later, due))

    -- Where the root has a rank in which the stamp stands whole, its timer fires first.
    pub record HasRoot : Type 0 where
      pub timer : Timer
      pub least : least_timer timers ≡ Some timer
      pub there : timer_at timers (rank_at ranks 1 % 2 ^ 16) ≡ Some timer
      pub inside : rank_at ranks 1 % 2 ^ 16 < length timers
      pub due : timer.due ≡ rank_at ranks 1 / 2 ^ 64
      pub work : timer.work.0 ≡ rank_at ranks 1 % 2 ^ 16

    pub has-root : rank_at ranks 1 % 2 ^ 64 < last_stamp * 2 ^ 16 → HasRoot
    has-root whole = by_cases (timer_at timers root.work) refl
      where
        by_cases : (o : Option Timer) → timer_at timers root.work ≡ o → HasRoot
        by_cases None none = absurd (let rank = root.is ∙ ap rank_of none in omega (arith, rank, whole))
        by_cases (Some r) found =
            let own : IsOwn root.work r = subst (λ (o : Option Timer). IfSome o (IsOwn root.work)) found (kept.own root.work root.inside) in
            let work_is = own.work_is in
            let root_inside = root.inside in
            let rank = root.is ∙ ap rank_of found in
            let here : rank_at ranks 1 % 2 ^ 16 ≡ root.work = ap (λ (rank : ℕ). rank % 2 ^ 16) rank ∙ work_in r root.work own (omega (arith, root_inside, few)) in
            record {
              timer = r;
              least = ap (timer_found timers) (first_is root.work r root_inside found rank (omega (arith, rank, whole, work_is, root_inside, few))) ∙ found;
              there = ap (timer_at timers) here ∙ found;
              inside = omega (arith, here, root_inside);
              due = sym (ap (λ (rank : ℕ). rank / 2 ^ 64) rank ∙ due_in r root.work own (omega (arith, root_inside, few)));
              work = work_is ∙ sym here;
            }

    pub root-due : (tick : ℕ) (work : WorkId) → (has : HasRoot) → rank_at ranks 1 / 2 ^ 64 ≤ tick → work.0 ≡ rank_at ranks 1 % 2 ^ 16 → Some work ≡ option_map (λ (timer : Timer). timer.work) (due_by tick (least_timer timers))
    root-due tick work has by_then is =
        let due = has.due in
        ap (λ (w : ℕ). Some (work_of w)) (is ∙ sym has.work)
        ∙ ap (option_map (λ (timer : Timer). timer.work)) (sym (is_due tick has.timer (omega (arith, due, by_then))) ∙ ap (due_by tick) (sym has.least))

    -- The tick that stands in the root's rank, where that isn't the rank of none.
    pub next-none : rank_at ranks 1 ≡ 2 ^ 128 - 1 → None ≡ option_map (λ (timer : Timer). timer.due) (least_timer timers)
    next-none none = ap (option_map (λ (timer : Timer). timer.due)) (sym (none_is none))

    pub next-some : rank_at ranks 1 ≢ 2 ^ 128 - 1 → Some (rank_at ranks 1 / 2 ^ 64) ≡ option_map (λ (timer : Timer). timer.due) (least_timer timers)
    next-some some = by_cases (timer_at timers root.work) refl
      where
        by_first : (r : Timer) → timer_at timers root.work ≡ Some r → (o : Option ℕ) → MatchFirst (fires_before timers) (λ w. is_some (timer_at timers w)) (length timers) o
            → Some (rank_at ranks 1 / 2 ^ 64) ≡ option_map (λ (timer : Timer). timer.due) (timer_found timers o)
        by_first r found None none = absurd (let has : is_some (timer_at timers root.work) ≡ true = rw found refl in let hasnt = none root.work root.inside in cc)
        by_first r found (Some w) first =
            let inside = first.in_range in
            let root_inside = root.inside in
            let own : IsOwn root.work r = subst (λ (o : Option Timer). IfSome o (IsOwn root.work)) found (kept.own root.work root_inside) in
            let rank : rank_at ranks 1 / 2 ^ 64 ≡ r.due = ap (λ (rank : ℕ). rank / 2 ^ 64) (root.is ∙ ap rank_of found) ∙ due_in r root.work own (omega (arith, root_inside, few)) in
            let other = has_own timers w (kept.own w inside) first.passes in
            let later : rank_at ranks 1 ≤ rank_of (Some other.timer) = subst (λ (o : Option Timer). rank_at ranks 1 ≤ rank_of o) other.is (root_before w inside) in
            let due = due_in other.timer w other.own (omega (arith, inside, few)) in
            let not_before : fires r other.timer ≡ false = subst (λ (o : Option Timer). (nat_lt r.due (timer_due o) || ((r.due == timer_due o) && nat_lt r.stamp (timer_stamp o))) ≡ false) other.is
            (subst (λ (o : Option Timer). (nat_lt (timer_due o) (timer_due (timer_at timers w)) || ((timer_due o == timer_due (timer_at timers w)) && nat_lt (timer_stamp o) (timer_stamp (timer_at timers w)))) ≡ false) found
            (first.least root.work root_inside (rw found refl))) in
            let sooner = due_no_sooner r other.timer not_before in
            let same : rank_at ranks 1 / 2 ^ 64 ≡ other.timer.due = omega (arith, rank, later, due, sooner) in
            ap Some same ∙ ap (option_map (λ (timer : Timer). timer.due)) (sym other.is)

        by_cases : (o : Option Timer) → timer_at timers root.work ≡ o → Some (rank_at ranks 1 / 2 ^ 64) ≡ option_map (λ (timer : Timer). timer.due) (least_timer timers)
        by_cases None none = absurd (some (root.is ∙ ap rank_of none))
        by_cases (Some r) found =
            by_first r found (first_to_fire timers) (first_below-is_first (fires_before timers) (λ w. is_some (timer_at timers w)) (length timers)
            (by_least_two-order (λ w. timer_due (timer_at timers w)) (λ w. timer_stamp (timer_at timers w))))
