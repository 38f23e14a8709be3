-- Who precedes whom, pair by pair.
use Rattle.std.proofs.Common.{◌≡◌, ℕ, zero, suc, ◌+◌, ◌<◌, ◌≤◌, List, [], ◌∷◌, ◌++◌, Result, Ok, Err, arith, drop, get_or, length, refl, ap, sym, ◌∙◌}
use Rattle.cmwq_types.specs.Contents.{ScenarioContents}
use Rattle.cmwq_exploration.specs.declared.exploration.Precedence.{Precedence}
use Rattle.cmwq_orders.specs.declared.choice.Before.{Before}
use Rattle.cmwq_explored.specs.Asking.{precedence_asked, precedences_asked, put_before}
use Rattle.cmwq_explored.specs.declared.error.ExploreError.{ExploreError}

-- these before those
abbrev pub put_all : List Before → Result (List Before) ExploreError → Result (List Before) ExploreError
put_all [] others = others
put_all (b ∷ bs) others = put_before (Ok b) (put_all bs others)

pub all_put : (bs : List Before) → put_all bs (Ok []) ≡ Ok bs
all_put [] = refl
all_put (b ∷ bs) = ap (λ (others : Result (List Before) ExploreError). put_before (Ok b) others) (all_put bs)

pub put_more : (bs : List Before) (b : Before) (others : Result (List Before) ExploreError) → put_all (bs ++ b ∷ []) others ≡ put_all bs (put_before (Ok b) others)
put_more [] b others = refl
put_more (c ∷ bs) b others = ap (λ (rest : Result (List Before) ExploreError). put_before (Ok c) rest) (put_more bs b others)

pub all_refused : (bs : List Before) (why : ExploreError) → put_all bs (Err why) ≡ Err why
all_refused [] why = refl
all_refused (b ∷ bs) why = ap (λ (rest : Result (List Before) ExploreError). put_before (Ok b) rest) (all_refused bs why)

-- the pairs from one on
pub asked_from : (S : ScenarioContents) (ps : List Precedence) (i : ℕ) (d : Precedence) → i < length ps
    → precedences_asked S (drop i ps) ≡ put_before (precedence_asked S (get_or ps i d)) (precedences_asked S (drop (i + 1) ps))
asked_from S [] i d below = absurd (omega (arith, below))
asked_from S (q ∷ ps) zero d below = refl
asked_from S (q ∷ ps) (suc i) d below =
    let index : suc i + 1 ≡ suc (i + 1) = omega arith in
    rw index (asked_from S ps i d (omega (arith, below)))

pub drop_all : (ps : List Precedence) (i : ℕ) → length ps ≤ i → drop i ps ≡ []
drop_all [] zero most = refl
drop_all [] (suc i) most = refl
drop_all (p ∷ ps) zero most = absurd (omega (arith, most))
drop_all (p ∷ ps) (suc i) most = drop_all ps i (omega (arith, most))
