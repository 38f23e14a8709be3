-- The walk along a worklist, up to the first work that a rescuer can take.
use Rattle.std.proofs.Common.{◌≡◌, ◌≢◌, ℕ, zero, suc, ◌+◌, ◌<◌, ◌≤◌, Bool, true, false, cond, ◌&&◌, Option, Some, None, arith, refl, ap, ◌∙◌, inl, inr}
use Rattle.std.specs.Prelude.{nat_lt}
use Rattle.std.proofs.lemmas.Bool.{cases_eq, cases_lt}
use Rattle.std.proofs.lemmas.Bool.Decides.{nat_tests}
use Rattle.cmwq_types.specs.First.{MatchFirst, by_least, count_below, first_below}
use Rattle.cmwq_types.proofs.FirstLemmas.{by_least-order, first_below-is_first, first_below-none, first_below-unique}

-- Works with keys, some of which are listed.
abbrev pub both : (ℕ → Bool) → (ℕ → Bool) → ℕ → Bool
both listed ok w = listed w && ok w

abbrev pub behind : (ℕ → ℕ) → (ℕ → Bool) → ℕ → ℕ → Bool
behind key listed w v = listed v && nat_lt (key w) (key v)

-- the walk has come here: none of the listed ones before this one is right
pub record IsHere (key : ℕ → ℕ) (listed ok : ℕ → Bool) (n w : ℕ) : Type 0 where
  pub in_range : w < n
  pub here : listed w ≡ true
  pub before : (v : ℕ) → v < n → listed v ≡ true → key v < key w → ok v ≡ false

-- or none is at all
abbrev pub HasCome : (ℕ → ℕ) → (ℕ → Bool) → (ℕ → Bool) → ℕ → Option ℕ → Type 0
HasCome key listed ok n (Some w) = IsHere key listed ok n w
HasCome key listed ok n None = (v : ℕ) → v < n → listed v ≡ true → ok v ≡ false

-- how many steps are left at most
abbrev pub steps_left : (ℕ → ℕ) → (ℕ → Bool) → ℕ → Option ℕ → ℕ
steps_left key listed n (Some w) = suc (count_below (behind key listed w) n)
steps_left key listed n None = 0

-- No two listed ones have one key.
module _ (key : ℕ → ℕ) (listed ok : ℕ → Bool) (n : ℕ) (apart : (v w : ℕ) → listed v ≡ true → listed w ≡ true → key v ≡ key w → v ≡ w) where
  first_is : (test : ℕ → Bool) → MatchFirst (by_least key) test n (first_below (by_least key) test n)
  first_is test = first_below-is_first (by_least key) test n (by_least-order key)

  pub walk_begins : HasCome key listed ok n (first_below (by_least key) listed n)
  walk_begins = by_first (first_below (by_least key) listed n) (first_is listed)
    where
      by_first : (o : Option ℕ) → MatchFirst (by_least key) listed n o → HasCome key listed ok n o
      by_first None is = λ v below here. absurd (let no = is v below in cc)
      by_first (Some w) is = record {
        in_range = is.in_range;
        here = is.passes;
        before = λ v below here sooner. absurd (let least = is.least v below here in grind (arith, nat_tests, sooner));
      }

  -- one that isn't right is passed
  pub walk_goes_on : (w : ℕ) → IsHere key listed ok n w → ok w ≡ false → HasCome key listed ok n (first_below (by_least key) (behind key listed w) n)
  walk_goes_on w is not_right = by_first (first_below (by_least key) (behind key listed w) n) (first_is (behind key listed w))
    where
      -- a listed one comes before it, is it, or comes behind it
      passed : (v : ℕ) → v < n → listed v ≡ true → (nat_lt (key w) (key v) ≡ true → ok v ≡ false) → ok v ≡ false
      passed v below here later = elim (cases_lt (key v) (key w)) [
        | inl sooner ↦ is.before v below here sooner
        | inr past ↦ elim (cases_eq (key v) (key w)) [
          | inl same ↦ ap ok (apart v w here is.here same) ∙ not_right
          | inr differs ↦ later (grind (arith, nat_tests, past, differs))
        ]
      ]

      by_first : (o : Option ℕ) → MatchFirst (by_least key) (behind key listed w) n o → HasCome key listed ok n o
      by_first None none = λ v below here. passed v below here (λ later. absurd (let no : (listed v && nat_lt (key w) (key v)) ≡ false = none v below in cc))
      by_first (Some u) first = record {
        in_range = first.in_range;
        here = both_left (listed u) (nat_lt (key w) (key u)) first.passes;
        before = λ v below here sooner. passed v below here (λ later. absurd (let least = first.least v below (ap (λ (b : Bool). b && nat_lt (key w) (key v)) here ∙ later) in grind (arith, nat_tests, sooner)));
      }
        where
          both_left : (a b : Bool) → (a && b) ≡ true → a ≡ true
          both_left true b e = refl
          both_left false b e = absurd (cc)

  -- the first that is right is found
  pub walk_finds : (w : ℕ) → IsHere key listed ok n w → ok w ≡ true → first_below (by_least key) (both listed ok) n ≡ Some w
  walk_finds w is right =
      first_below-unique (by_least key) (both listed ok) n w (by_least-order key) is.in_range (ap (λ (b : Bool). b && ok w) is.here ∙ right)
      (λ v lower passes. ahead v (omega (arith, lower, is.in_range)) (λ same. absurd (omega (arith, same, lower))) passes)
      (λ v below passes. not_ahead v below passes)
    where
      parts : (a b : Bool) → (a && b) ≡ true → (a ≡ true) × (b ≡ true)
      parts true b e = (refl, e)
      parts false b e = absurd (cc)

      not_sooner : (v : ℕ) → v < n → both listed ok v ≡ true → key w ≤ key v
      not_sooner v below passes = elim (cases_lt (key v) (key w)) [
        | inl sooner ↦ absurd (let so = parts (listed v) (ok v) passes in let no = is.before v below so.0 sooner in let yes = so.1 in cc)
        | inr past ↦ past
      ]

      not_ahead : (v : ℕ) → v < n → both listed ok v ≡ true → nat_lt (key v) (key w) ≡ false
      not_ahead v below passes = (let past = not_sooner v below passes in grind (arith, nat_tests, past))

      ahead : (v : ℕ) → v < n → v ≢ w → both listed ok v ≡ true → nat_lt (key w) (key v) ≡ true
      ahead v below other passes = elim (cases_eq (key v) (key w)) [
        | inl same ↦ absurd (other (apart v w (parts (listed v) (ok v) passes).0 is.here same))
        | inr differs ↦ let past = not_sooner v below passes in grind (arith, nat_tests, past, differs)
      ]

  -- where the walk comes to the end, none is right
  pub walk_ends : HasCome key listed ok n None → first_below (by_least key) (both listed ok) n ≡ None
  walk_ends none = first_below-none (by_least key) (both listed ok) n (by_least-order key) (λ v below. by_listed v below (listed v) refl)
    where
      by_listed : (v : ℕ) → v < n → (b : Bool) → listed v ≡ b → (b && ok v) ≡ false
      by_listed v below false e = refl
      by_listed v below true e = none v below e

  -- each step leaves fewer
  pub walk_shortens : (w : ℕ) → steps_left key listed n (first_below (by_least key) (behind key listed w) n) < steps_left key listed n (Some w)
  walk_shortens w = by_first (first_below (by_least key) (behind key listed w) n) (first_is (behind key listed w))
    where
      no_more : (p q : ℕ → Bool) (m : ℕ) → ((k : ℕ) → p k ≡ true → q k ≡ true) → count_below p m ≤ count_below q m
      no_more p q zero within = omega arith
      no_more p q (suc m) within = (let rest = no_more p q m within in by_tests (p m) (q m) (within m) rest)
        where
          by_tests : (a b : Bool) → (a ≡ true → b ≡ true) → count_below p m ≤ count_below q m → count_below p m + cond a 1 0 ≤ count_below q m + cond b 1 0
          by_tests true true imply rest = omega (arith, rest)
          by_tests true false imply rest = absurd (let no = imply refl in cc)
          by_tests false true imply rest = omega (arith, rest)
          by_tests false false imply rest = omega (arith, rest)

      fewer : (p q : ℕ → Bool) (m u : ℕ) → ((k : ℕ) → p k ≡ true → q k ≡ true) → u < m → p u ≡ false → q u ≡ true → count_below p m < count_below q m
      fewer p q zero u within below fails passes = absurd (omega arith)
      fewer p q (suc m) u within below fails passes = elim (cases_eq m u) [
        | inl same ↦
            let rest = no_more p q m within in
            let one : p m ≡ false = ap p same ∙ fails in
            let two : q m ≡ true = ap q same ∙ passes in
            rw (one, two) (omega (arith, rest))
        | inr other ↦ let rest = fewer p q m u within (omega arith) fails passes in by_tests (p m) (q m) (within m) rest
      ]
        where
          by_tests : (a b : Bool) → (a ≡ true → b ≡ true) → count_below p m < count_below q m → count_below p m + cond a 1 0 < count_below q m + cond b 1 0
          by_tests true true imply rest = omega (arith, rest)
          by_tests true false imply rest = absurd (let no = imply refl in cc)
          by_tests false true imply rest = omega (arith, rest)
          by_tests false false imply rest = omega (arith, rest)

      further : (u : ℕ) → nat_lt (key w) (key u) ≡ true → (k : ℕ) (a : Bool) → (a && nat_lt (key u) (key k)) ≡ true → (a && nat_lt (key w) (key k)) ≡ true
      further u later k true passes = grind (arith, nat_tests, later, passes)
      further u later k false passes = absurd (cc)

      parts : (a b : Bool) → (a && b) ≡ true → b ≡ true
      parts true b e = e
      parts false b e = absurd (cc)

      itself : (u : ℕ) (a : Bool) → (a && nat_lt (key u) (key u)) ≡ false
      itself u true = grind (arith, nat_tests)
      itself u false = refl

      by_first : (o : Option ℕ) → MatchFirst (by_least key) (behind key listed w) n o → steps_left key listed n o < suc (count_below (behind key listed w) n)
      by_first None none = omega arith
      by_first (Some u) first =
          let rest = fewer (behind key listed u) (behind key listed w) n u (λ k passes. further u (parts (listed u) (nat_lt (key w) (key u)) first.passes) k (listed k) passes) first.in_range (itself u (listed u)) first.passes in
          omega (arith, rest)
