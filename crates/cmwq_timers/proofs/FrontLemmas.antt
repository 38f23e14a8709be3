-- What is set or stopped in front of the tree or in it, and the first rank of both.
use Rattle.std.proofs.Common.{◌≡◌, ◌≢◌, ℕ, ◌+◌, ◌*◌, ◌/◌, ◌%◌, ◌^◌, ◌<◌, ◌≤◌, List, length, max, min, replicate, set, Some, None, arith, refl, sym, ap, subst, ◌∙◌, inl, inr}
use Rattle.std.proofs.lemmas.Bool.{cases_eq, cases_lt}
use Rattle.std.proofs.lemmas.List.{get_or-set_other, get_or-set_same, get_or_past, length-replicate, length-set, set_past}
use Rattle.cmwq_timers.specs.AlarmRanks.{AreKept, IsAlarmTree, IsFirstRank, IsOwnRank, alarm_rank, alarms_in, first_late_tick, leaf_rank, no_alarm, tick_at, with_front}
use Rattle.cmwq_timers.specs.Alarms.{alarm_at}
use Rattle.cmwq_timers.specs.Tree.{HasGiven, IsTree, rank_at}
use Rattle.cmwq_timers.proofs.AlarmLemmas.{alarm_is, alarm_none, alarm_some, alarms-new, alarms-set, alarms-stopped, alarms_long, before_none, half, kept-new, kept-with, leaf_here, none_in, rank_other, some_in}
use Rattle.cmwq_timers.proofs.TreeLemmas.{root_leaf, root_least}

-- One leaf.

-- it gets a rank
given-here : (ranks : List ℕ) (leaf rank : ℕ) → leaf < length ranks → HasGiven ranks (set ranks leaf rank) leaf rank
given-here ranks leaf rank inside = record {
  long = length-set ranks leaf rank;
  here = get_or-set_same ranks leaf rank 0 inside;
  others = λ l leaf_too apart. get_or-set_other ranks leaf l rank 0 apart;
}

-- it gets back the one that it had
given-back : (ranks : List ℕ) (leaf rank : ℕ) → HasGiven (set ranks leaf rank) ranks leaf (rank_at ranks leaf)
given-back ranks leaf rank = record {
  long = sym (length-set ranks leaf rank);
  here = refl;
  others = λ l leaf_too apart. sym (get_or-set_other ranks leaf l rank 0 apart);
}

-- it keeps its own
given-same : (ranks : List ℕ) (leaf rank : ℕ) → rank_at ranks leaf ≡ rank → HasGiven ranks ranks leaf rank
given-same ranks leaf rank is = record { long = refl; here = is; others = λ l leaf_too apart. refl }

-- it gets a rank, and another one has the same as before
given-beside : (was ranks : List ℕ) (leaf rank other of_other : ℕ) → other ≢ leaf → HasGiven was ranks leaf rank → HasGiven (set was other of_other) (set ranks other of_other) leaf rank
given-beside was ranks leaf rank other of_other apart given =
    let long_was = length-set was other of_other in
    let long = length-set ranks other of_other ∙ given.long ∙ sym long_was in
    record {
      long = long;
      here = get_or-set_other ranks other leaf of_other 0 (λ same. absurd (apart (sym same))) ∙ given.here;
      others = λ l leaf_too l_apart.
          elim (cases_eq l other) [
            | inl same ↦
                subst (λ (k : ℕ). rank_at (set ranks other of_other) k ≡ rank_at (set was other of_other) k) (sym same)
                (elim (cases_lt other (length was)) [
                  | inl inside ↦ get_or-set_same ranks other of_other 0 (omega (arith, inside, given.long)) ∙ sym (get_or-set_same was other of_other 0 inside)
                  | inr past ↦ get_or_past (set ranks other of_other) other 0 (omega (arith, past, long, long_was)) ∙ sym (get_or_past (set was other of_other) other 0 (omega (arith, past, long_was)))
                ])
            | inr differs ↦
                get_or-set_other ranks other l of_other 0 differs ∙ given.others l (omega (arith, leaf_too, long_was)) l_apart ∙ sym (get_or-set_other was other l of_other 0 differs)
          ];
    }

-- where there is none in front, the tree has all
module _ (ranks : List ℕ) (works : ℕ) (few : works < 2 ^ 16) (long : length ranks ≡ 2 * max works 1) where
  pub none-in_front : with_front no_alarm ranks ≡ ranks
  none-in_front = set_past ranks (length ranks / 2 + no_alarm % 2 ^ 16) no_alarm (omega (arith, few, long))

-- and the tree may stand alone
pub kept-empty : (ticks ranks : List ℕ) → IsAlarmTree ticks ranks → AreKept no_alarm ticks ranks
kept-empty ticks ranks tree = record {
  tree = tree;
  in_front = record {
    own = λ some. absurd (some refl);
    alone = λ some. absurd (some refl);
  };
}

-- none at the start
module _ (n : ℕ) (ticks ranks : List ℕ) (few : n < 2 ^ 16) (ticks_are : ticks ≡ replicate n 0) (ranks_are : ranks ≡ replicate (2 * max n 1) no_alarm) where
  pub kept-none : AreKept no_alarm ticks ranks
  kept-none = kept-empty ticks ranks (kept-new n ticks ranks few ticks_are ranks_are)

  pub alarms-none : alarms_in ticks (with_front no_alarm ranks) ≡ replicate n None
  alarms-none =
      ap (alarms_in ticks) (none-in_front ranks n few (ap length ranks_are ∙ length-replicate (2 * max n 1) no_alarm)) ∙ alarms-new n ticks ranks few ticks_are ranks_are

module _ (front : ℕ) (ticks ranks : List ℕ) (kept : AreKept front ticks ranks) where
  few : length ticks < 2 ^ 16
  few = kept.tree.few

  long : length ranks ≡ 2 * max (length ticks) 1
  long = kept.tree.long

  even : length ranks ≡ 2 * (length ranks / 2)
  even = omega (arith, long)

  long_too : length (with_front front ranks) ≡ length ranks
  long_too = length-set ranks (length ranks / 2 + front % 2 ^ 16) front

  long_front : length (with_front front ranks) ≡ 2 * max (length ticks) 1
  long_front = long_too ∙ long

  -- the work in front, and the others
  at_front : front % 2 ^ 16 < length ticks → leaf_rank (with_front front ranks) (front % 2 ^ 16) ≡ front
  at_front inside =
      ap (λ (n : ℕ). rank_at (with_front front ranks) (n / 2 + front % 2 ^ 16)) long_too ∙ get_or-set_same ranks (length ranks / 2 + front % 2 ^ 16) front 0 (omega (arith, inside, long))

  beside_front : (w : ℕ) → w ≢ front % 2 ^ 16 → leaf_rank (with_front front ranks) w ≡ leaf_rank ranks w
  beside_front w apart =
      ap (λ (n : ℕ). rank_at (with_front front ranks) (n / 2 + w)) long_too
      ∙ get_or-set_other ranks (length ranks / 2 + front % 2 ^ 16) (length ranks / 2 + w) front 0 (λ same. absurd (apart (omega (arith, same))))

  -- a work's number stands in front only where an alarm does
  some_front : front % 2 ^ 16 < length ticks → front ≢ no_alarm
  some_front inside none = absurd (omega (arith, none, inside, few))

  module _ (w : ℕ) (inside : w < length ticks) where
    -- What `get` reads.

    pub get-none : leaf_rank ranks w ≡ no_alarm → w ≢ front % 2 ^ 16 → alarm_at (alarms_in ticks (with_front front ranks)) w ≡ None
    get-none none apart = alarm_is ticks (with_front front ranks) w inside ∙ alarm_none (tick_at ticks w) (leaf_rank (with_front front ranks) w) (beside_front w apart ∙ none)

    get_some : leaf_rank (with_front front ranks) w ≢ no_alarm → alarm_at (alarms_in ticks (with_front front ranks)) w ≡ Some (tick_at ticks w)
    get_some some = alarm_is ticks (with_front front ranks) w inside ∙ alarm_some (tick_at ticks w) (leaf_rank (with_front front ranks) w) some

    pub get-front : w ≡ front % 2 ^ 16 → alarm_at (alarms_in ticks (with_front front ranks)) w ≡ Some (tick_at ticks w)
    get-front same =
        let there : front % 2 ^ 16 < length ticks = omega (arith, inside, same) in
        get_some (λ none. some_front there (sym (at_front there) ∙ ap (leaf_rank (with_front front ranks)) (sym same) ∙ none))

    pub get-tree : leaf_rank ranks w ≢ no_alarm → alarm_at (alarms_in ticks (with_front front ranks)) w ≡ Some (tick_at ticks w)
    get-tree some = elim (cases_eq w (front % 2 ^ 16)) [
      | inl same ↦ get-front same
      | inr apart ↦ get_some (λ none. some (sym (beside_front w apart) ∙ none))
    ]

    -- Where it has no alarm, there's none in its leaf nor in front.

    module _ (absent : alarm_at (alarms_in ticks (with_front front ranks)) w ≡ None) where
      none_too : leaf_rank (with_front front ranks) w ≡ no_alarm
      none_too = none_in (tick_at ticks w) (leaf_rank (with_front front ranks) w) (sym (alarm_is ticks (with_front front ranks) w inside) ∙ absent)

      pub absent-apart : w ≢ front % 2 ^ 16
      absent-apart same = absurd (let some = get-front same in cc)

      leaf_none : leaf_rank ranks w ≡ no_alarm
      leaf_none = sym (beside_front w absent-apart) ∙ none_too

      pub rank-lesser : (tick : ℕ) → alarm_rank w tick ≤ rank_at ranks (length ticks + w)
      rank-lesser tick =
          let is = leaf_none in
          let same = leaf_here ticks ranks few long w inside in
          let less = before_none w tick (omega (arith, inside, few)) in
          omega (arith, is, same, less)

      -- The work's alarm is set in front, where there was none.
      module _ (tick : ℕ) (free : front ≡ no_alarm) where
        number : alarm_rank w tick % 2 ^ 16 ≡ w
        number = omega (arith, inside, few)

        pub kept-set_in_front : AreKept (alarm_rank w tick) (set ticks w tick) ranks
        kept-set_in_front =
            let none : rank_at ranks (length ticks + w) ≡ no_alarm = sym (leaf_here ticks ranks few long w inside) ∙ leaf_none in
            let many = length-set ticks w tick in
            record {
              tree =
                  kept-with ticks ranks few long w inside (set ticks w tick) ranks no_alarm many (λ v other. get_or-set_other ticks w v tick 0 other) (given-same ranks (length ticks + w) no_alarm none)
                  kept.tree.own kept.tree.tree (λ some. absurd (some refl));
              in_front = record {
                own = λ some.
                    subst (λ (v : ℕ). (v < length (set ticks w tick)) × (alarm_rank w tick ≡ alarm_rank v (tick_at (set ticks w tick) v))) (sym number)
                    (omega (arith, inside, many), ap (alarm_rank w) (sym (get_or-set_same ticks w tick 0 inside)));
                alone = λ some. ap (leaf_rank ranks) number ∙ leaf_none;
              };
            }

        pub alarms-set_in_front : alarms_in (set ticks w tick) (with_front (alarm_rank w tick) ranks) ≡ set (alarms_in ticks (with_front front ranks)) w (Some tick)
        alarms-set_in_front =
            let same = half ticks ranks few long w inside in
            let leaf : length ticks + w ≡ length ranks / 2 + alarm_rank w tick % 2 ^ 16 = omega (arith, same, number) in
            alarms-set ticks (with_front front ranks) few long_front w inside tick (with_front (alarm_rank w tick) ranks)
            (subst (λ (was : List ℕ). HasGiven was (with_front (alarm_rank w tick) ranks) (length ticks + w) (alarm_rank w tick))
            (sym (ap (λ (rank : ℕ). with_front rank ranks) free ∙ none-in_front ranks (length ticks) few long))
            (subst (λ (node : ℕ). HasGiven ranks (set ranks node (alarm_rank w tick)) (length ticks + w) (alarm_rank w tick)) leaf
            (given-here ranks (length ticks + w) (alarm_rank w tick) (omega (arith, inside, long)))))

    -- The work's alarm is taken away in front, where it stands there.
    module _ (same : w ≡ front % 2 ^ 16) where
      pub alarms-stopped_in_front : alarms_in ticks (with_front no_alarm ranks) ≡ set (alarms_in ticks (with_front front ranks)) w None
      alarms-stopped_in_front =
          let as_many = half ticks ranks few long w inside in
          let there : front % 2 ^ 16 < length ticks = omega (arith, inside, same) in
          let leaf : length ranks / 2 + front % 2 ^ 16 ≡ length ticks + w = omega (arith, as_many, same) in
          alarms-stopped ticks (with_front front ranks) few long_front w inside (with_front no_alarm ranks)
          (subst (λ (now : List ℕ). HasGiven (with_front front ranks) now (length ticks + w) no_alarm) (sym (none-in_front ranks (length ticks) few long))
          (subst (λ (node : ℕ). HasGiven (with_front front ranks) ranks node no_alarm) leaf
          (subst (HasGiven (with_front front ranks) ranks (length ranks / 2 + front % 2 ^ 16)) (kept.in_front.alone (some_front there)) (given-back ranks (length ranks / 2 + front % 2 ^ 16) front))))

    -- The work's leaf in the tree gets another rank, while another's alarm stands in front, or none does.
    module _ (apart : w ≢ front % 2 ^ 16) where
      module _ (new_ranks : List ℕ) (rank : ℕ) (given : HasGiven ranks new_ranks (length ticks + w) rank) where
        given_too : HasGiven (with_front front ranks) (with_front front new_ranks) (length ticks + w) rank
        given_too =
            let same = half ticks ranks few long w inside in
            subst (λ (n : ℕ). HasGiven (with_front front ranks) (set new_ranks (n / 2 + front % 2 ^ 16) front) (length ticks + w) rank) (sym given.long)
            (given-beside ranks new_ranks (length ticks + w) rank (length ranks / 2 + front % 2 ^ 16) front (λ is. absurd (apart (omega (arith, is, same)))) given)

        kept_too : (new_ticks : List ℕ) → length new_ticks ≡ length ticks → ((v : ℕ) → v ≢ w → tick_at new_ticks v ≡ tick_at ticks v) → IsTree new_ranks → IsOwnRank new_ticks w rank → AreKept front new_ticks new_ranks
        kept_too new_ticks as_many others tree own =
            let work = front % 2 ^ 16 in
            let differs : work ≢ w = λ is. absurd (apart (sym is)) in
            record {
              tree = kept-with ticks ranks few long w inside new_ticks new_ranks rank as_many others given kept.tree.own tree own;
              in_front = record {
                own = λ some. let was = kept.in_front.own some in (omega (arith, was.0, as_many), was.1 ∙ ap (alarm_rank work) (sym (others work differs)));
                alone = λ some. rank_other ticks ranks few long w inside new_ticks new_ranks rank as_many others given work differs ∙ kept.in_front.alone some;
              };
            }

      -- set
      module _ (tick : ℕ) (new_ranks : List ℕ) (given : HasGiven ranks new_ranks (length ticks + w) (alarm_rank w tick)) where
        pub kept-set_in_tree : IsTree new_ranks → AreKept front (set ticks w tick) new_ranks
        kept-set_in_tree tree =
            let many = length-set ticks w tick in
            kept_too new_ranks (alarm_rank w tick) given (set ticks w tick) many (λ v other. get_or-set_other ticks w v tick 0 other) tree
            (λ some. (omega (arith, inside, many), ap (alarm_rank w) (sym (get_or-set_same ticks w tick 0 inside))))

        pub alarms-set_in_tree : alarms_in (set ticks w tick) (with_front front new_ranks) ≡ set (alarms_in ticks (with_front front ranks)) w (Some tick)
        alarms-set_in_tree = alarms-set ticks (with_front front ranks) few long_front w inside tick (with_front front new_ranks) (given_too new_ranks (alarm_rank w tick) given)

      -- stopped
      module _ (new_ranks : List ℕ) (given : HasGiven ranks new_ranks (length ticks + w) no_alarm) where
        pub kept-stopped_in_tree : IsTree new_ranks → AreKept front ticks new_ranks
        kept-stopped_in_tree tree = kept_too new_ranks no_alarm given ticks refl (λ v other. refl) tree (λ some. absurd (some refl))

        pub alarms-stopped_in_tree : alarms_in ticks (with_front front new_ranks) ≡ set (alarms_in ticks (with_front front ranks)) w None
        alarms-stopped_in_tree = alarms-stopped ticks (with_front front ranks) few long_front w inside (with_front front new_ranks) (given_too new_ranks no_alarm given)

  -- The first rank: the lesser of that in front and the root's.

  abbrev first_rank : ℕ
  first_rank = min front (rank_at ranks 1)

  own_rank : (w : ℕ) → w < length ticks → IsOwnRank ticks w (leaf_rank (with_front front ranks) w)
  own_rank w inside = elim (cases_eq w (front % 2 ^ 16)) [
    | inl same ↦
        let there : front % 2 ^ 16 < length ticks = omega (arith, inside, same) in
        subst (λ (v : ℕ). IsOwnRank ticks v (leaf_rank (with_front front ranks) v)) (sym same) (subst (IsOwnRank ticks (front % 2 ^ 16)) (sym (at_front there)) kept.in_front.own)
    | inr apart ↦ subst (IsOwnRank ticks w) (sym (beside_front w apart)) (kept.tree.own w (omega (arith, inside, long)))
  ]

  no_lesser : (w : ℕ) → w < length ticks → first_rank ≤ leaf_rank (with_front front ranks) w
  no_lesser w inside = elim (cases_eq w (front % 2 ^ 16)) [
    | inl same ↦
        let there : front % 2 ^ 16 < length ticks = omega (arith, inside, same) in
        let is : leaf_rank (with_front front ranks) w ≡ front = ap (leaf_rank (with_front front ranks)) same ∙ at_front there in
        omega (arith, is)
    | inr apart ↦
        let is = beside_front w apart in
        let before = root_least ranks even kept.tree.tree w (omega (arith, inside, long)) in
        omega (arith, is, before)
  ]

  -- a work whose rank is the first
  record HasFirst : Type 0 where
    work : ℕ
    inside : work < length ticks
    is : leaf_rank (with_front front ranks) work ≡ first_rank

  has_first : first_rank < first_late_tick * 2 ^ 16 → HasFirst
  has_first whole =
      elim (cases_lt front (rank_at ranks 1)) [
        | inl lesser ↦
            let own = kept.in_front.own (λ none. absurd (omega (arith, none, whole, lesser))) in
            let least : front ≡ first_rank = omega (arith, lesser) in
            record { work = front % 2 ^ 16; inside = own.0; is = at_front own.0 ∙ least }
        | inr no_lesser ↦
            let root = root_leaf ranks even kept.tree.tree (omega (arith, long)) in
            let least : rank_at ranks 1 ≡ first_rank = omega (arith, no_lesser) in
            let some : leaf_rank ranks root.leaf ≢ no_alarm = λ none. absurd (let is = root.is in omega (arith, none, whole, is, no_lesser)) in
            let own = kept.tree.own root.leaf root.inside some in
            let apart : root.leaf ≢ front % 2 ^ 16 = λ same.
            absurd (some (ap (leaf_rank ranks) same ∙ kept.in_front.alone (some_front (let inside = own.0 in omega (arith, inside, same))))) in
            record { work = root.leaf; inside = own.0; is = beside_front root.leaf apart ∙ sym root.is ∙ least }
      ]

  pub is-first : IsFirstRank (alarms_in ticks (with_front front ranks)) first_rank
  is-first = record {
    least = λ w tick is.
        elim (cases_lt w (length ticks)) [
          | inl inside ↦
              let kept = some_in (tick_at ticks w) (leaf_rank (with_front front ranks) w) tick (sym (alarm_is ticks (with_front front ranks) w inside) ∙ is) in
              let own = own_rank w inside kept.0 in
              subst (λ (t : ℕ). first_rank ≤ alarm_rank w t) kept.1 (subst (λ (rank : ℕ). first_rank ≤ rank) own.1 (no_lesser w inside))
          | inr past ↦ absurd (let none = get_or_past (alarms_in ticks (with_front front ranks)) w None (omega (arith, past, alarms_long ticks (with_front front ranks))) in cc)
        ];
    whole = λ whole.
        let first = has_first whole in
        let w = first.work in
        let inside = first.inside in
        let some : leaf_rank (with_front front ranks) w ≢ no_alarm = λ none. absurd (let is = first.is in omega (arith, none, is, whole)) in
        let own = own_rank w inside some in
        let is : first_rank ≡ alarm_rank w (tick_at ticks w) = sym first.is ∙ own.1 in
        let number : w ≡ first_rank % 2 ^ 16 = omega (arith, inside, few, is) in
        let tick : tick_at ticks w ≡ first_rank / 2 ^ 16 = omega (arith, inside, few, is, whole) in
        record {
          inside = omega (arith, number, inside, alarms_long ticks (with_front front ranks));
          rings = ap (alarm_at (alarms_in ticks (with_front front ranks))) (sym number) ∙ get_some w inside some ∙ ap Some tick;
        };
  }
