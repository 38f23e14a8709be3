-- What a caller cites of lists.
use Rattle.std.proofs.Common.{◌≡◌, ℕ, zero, suc, ◌+◌, ◌*◌, ◌^◌, ◌<◌, Bool, true, false, nat_lt, length, Option, Some, None, cond, arith, refl, ap, ◌∙◌}
use Rattle.std.proofs.lemmas.Bool.Decides.{nat_tests}
use Rattle.std.proofs.lemmas.List.{get_or_past}
use Rattle.cmwq_types.specs.First.{first_below, first_with, by_least, by_least_two, by_greatest, IsOrder, MatchFirst}
use Rattle.cmwq_types.proofs.FirstLemmas.{by_least-order, by_least_two-order, by_greatest-order, first_below-is_first, first_below-agree}
use Rattle.cmwq_lists.specs.ListContents.{ListContents, IsHeld, is_in, order_at}
use Rattle.cmwq_lists.specs.Ranks.{FirstsAreOfTheTest, LastsAreOfTheTest, TwoKeysAreOne}

-- a work that is held is one of those that there are
pub held_below : (c : ListContents) (key : ℕ) → IsHeld c key → key < length c.ranks
held_below c key held = grind (arith, get_or_past)

-- orders that agree on what passes have the same first
pub first_agree : (one two : ℕ → ℕ → Bool) (test : ℕ → Bool) (n : ℕ) → IsOrder one → ((v w : ℕ) → v < n → w < n → test v ≡ true → test w ≡ true → one v w ≡ two v w) → first_below one test n ≡ first_below two test n
first_agree one two test zero order same = refl
first_agree one two test (suc n) order same =
    let rest : first_below one test n ≡ first_below two test n = first_agree one two test n order (λ v w v_below w_below. same v w (omega arith) (omega arith)) in
    step (test n) refl (first_below one test n) (first_below-is_first one test n order) ∙ ap (λ (found : Option ℕ). first_with two n (test n) found) rest
  where
    step : (b : Bool) → test n ≡ b → (found : Option ℕ) → MatchFirst one test n found → first_with one n b found ≡ first_with two n b found
    step false e found first = refl
    step true e None first = refl
    step true e (Some m) first = ap (λ (b : Bool). Some (cond b n m)) (same n m (omega arith) (omega (arith, first.in_range)) e first.passes)

pub firsts_are_of_the_test : FirstsAreOfTheTest
firsts_are_of_the_test c list number test holds =
    first_below-agree (by_least (order_at c)) (is_in c list) test (length c.ranks) holds.works
    ∙ first_agree (by_least (order_at c)) (by_least number) test (length c.ranks) (by_least-order (order_at c))
    (λ v w v_below w_below v_passes w_passes. ap (λ (a : ℕ). nat_lt a (order_at c w)) (holds.orders v v_below v_passes) ∙ ap (λ (b : ℕ). nat_lt (number v) b) (holds.orders w w_below w_passes))

pub lasts_are_of_the_test : LastsAreOfTheTest
lasts_are_of_the_test c list number test holds =
    first_below-agree (by_greatest (order_at c)) (is_in c list) test (length c.ranks) holds.works
    ∙ first_agree (by_greatest (order_at c)) (by_greatest number) test (length c.ranks) (by_greatest-order (order_at c))
    (λ v w v_below w_below v_passes w_passes. ap (λ (a : ℕ). nat_lt a (order_at c v)) (holds.orders w w_below w_passes) ∙ ap (λ (b : ℕ). nat_lt (number w) b) (holds.orders v v_below v_passes))

pub two_keys_are_one : TwoKeysAreOne
two_keys_are_one key next_key test n small = first_agree (by_least_two key next_key) (by_least (λ w. key w * 2 ^ 64 + next_key w)) test n (by_least_two-order key next_key)
    (λ v w v_below w_below v_passes w_passes. (let v_small = small v v_below v_passes in let w_small = small w w_below w_passes in grind (arith, nat_tests)))
