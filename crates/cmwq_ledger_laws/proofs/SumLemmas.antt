-- Sums over the works, and over the lines of those that are still there.
use Rattle.std.proofs.Common.{◌≡◌, ℕ, zero, suc, ◌+◌, ◌<◌, Bool, true, false, cond, List, [], ◌∷◌, length, arith, refl, sym, ap, ◌∙◌}
use Rattle.std.proofs.lemmas.List.Sums.{sum_by-append, sum_by-cons}
use Rattle.std.specs.List.{flat_map, range_with_len, sum_by}
use Rattle.std.specs.Prelude.{nat_le}
use Rattle.cmwq_types.specs.Contents.{ScenarioContents}
use Rattle.cmwq_types.specs.First.{count_below}
use Rattle.cmwq_table.specs.State.{State}
use Rattle.cmwq_picture.specs.Picture.{below}
use Rattle.cmwq_ledger.specs.Contents.{LedgerContents}
use Rattle.cmwq_ledger.specs.Ledger.{by_since, put_all, put_by_since, still_lines, still_of}
use Rattle.cmwq_ledger.specs.declared.times_line.TimesLine.{TimesLine}
use Rattle.cmwq_ledger_laws.proofs.Counting.{bit}

-- the values at the numbers below n
abbrev pub sum_below : (ℕ → ℕ) → ℕ → ℕ
sum_below value zero = 0
sum_below value (suc n) = sum_below value n + value n

pub sum-same : (f g : ℕ → ℕ) (n : ℕ) → ((w : ℕ) → f w ≡ g w) → sum_below f n ≡ sum_below g n
sum-same f g zero same = refl
sum-same f g (suc n) same =
    let before : sum_below f n ≡ sum_below g n = sum-same f g n same in
    let here : f n ≡ g n = same n in
    omega (arith, before, here)

-- where two values together are two others
pub sum-balance : (a b c d : ℕ → ℕ) (n : ℕ) → ((w : ℕ) → w < n → a w + b w ≡ c w + d w) → sum_below a n + sum_below b n ≡ sum_below c n + sum_below d n
sum-balance a b c d zero each = refl
sum-balance a b c d (suc n) each =
    let before : sum_below a n + sum_below b n ≡ sum_below c n + sum_below d n = sum-balance a b c d n (λ w there. each w (omega arith)) in
    let here : a n + b n ≡ c n + d n = each n (omega arith) in
    omega (arith, before, here)

pub sum-both : (f g : ℕ → ℕ) (n : ℕ) → sum_below (λ w. f w + g w) n ≡ sum_below f n + sum_below g n
sum-both f g zero = refl
sum-both f g (suc n) = let before : sum_below (λ w. f w + g w) n ≡ sum_below f n + sum_below g n = sum-both f g n in omega (arith, before)

pub sum-none : (f : ℕ → ℕ) (n : ℕ) → ((w : ℕ) → f w ≡ 0) → sum_below f n ≡ 0
sum-none f zero none = refl
sum-none f (suc n) none =
    let before : sum_below f n ≡ 0 = sum-none f n none in
    let here : f n ≡ 0 = none n in
    omega (arith, before, here)

pub sum-bits : (test : ℕ → Bool) (n : ℕ) → sum_below (λ w. bit (test w)) n ≡ count_below test n
sum-bits test zero = refl
sum-bits test (suc n) = ap (λ (k : ℕ). k + bit (test n)) (sum-bits test n)

-- Lists of numbers.

sum_from : (ℕ → ℕ) → ℕ → ℕ → ℕ
sum_from value from zero = 0
sum_from value from (suc n) = value from + sum_from value (from + 1) n

sum-split : (value : ℕ → ℕ) (from n : ℕ) → sum_below value from + sum_from value from n ≡ sum_below value (from + n)
unfolding sum_from
sum-split value from zero = (let same : from + 0 ≡ from = omega arith in let none : sum_below value from + 0 ≡ sum_below value from = omega arith in none ∙ ap (sum_below value) (sym same))
sum-split value from (suc n) =
    let same : from + 1 + n ≡ from + suc n = omega arith in
    let rest : sum_below value (from + 1) + sum_from value (from + 1) n ≡ sum_below value (from + 1 + n) = sum-split value (from + 1) n in
    let one : sum_below value (from + 1) ≡ sum_below value from + value from = ap (sum_below value) one-more in
    together (sum_below value from) (value from) (sum_from value (from + 1) n) (sum_below value (from + 1)) (sum_below value (from + 1 + n)) one rest ∙ ap (sum_below value) same
  where
    one-more : from + 1 ≡ suc from
    one-more = omega arith

    together : (a b c d e : ℕ) → d ≡ a + b → d + c ≡ e → a + (b + c) ≡ e
    together a b c d e p q = omega arith

flat-sum : (f : TimesLine → ℕ) (g : ℕ → List TimesLine) (from n : ℕ) → sum_by f (flat_map g (range_with_len from n)) ≡ sum_from (λ w. sum_by f (g w)) from n
unfolding sum_from
flat-sum f g from zero = refl
flat-sum f g from (suc n) =
    sum_by-append f (g from) (flat_map g (range_with_len (from + 1) n)) ∙ ap (λ (k : ℕ). sum_by f (g from) + k) (flat-sum f g (from + 1) n)

-- Lines in their order.

put-if : (f : TimesLine → ℕ) (line other : TimesLine) (others rest : List TimesLine) (b : Bool) → sum_by f rest ≡ f line + sum_by f others
    → sum_by f (cond {A = List TimesLine} b (line ∷ other ∷ others) (other ∷ rest)) ≡ f line + sum_by f (other ∷ others)
put-if f line other others rest true e = sum_by-cons f line (other ∷ others)
put-if f line other others rest false e =
    let one : sum_by f (other ∷ rest) ≡ f other + sum_by f rest = sum_by-cons f other rest in
    let two : sum_by f (other ∷ others) ≡ f other + sum_by f others = sum_by-cons f other others in
    omega (arith, one, two, e)

put-sum : (f : TimesLine → ℕ) (line : TimesLine) (lines : List TimesLine) → sum_by f (put_by_since line lines) ≡ f line + sum_by f lines
put-sum f line [] = sum_by-cons f line []
put-sum f line (other ∷ others) =
    put-if f line other others (put_by_since line others) (nat_le line.account.since other.account.since) (put-sum f line others)

all-sum : (f : TimesLine → ℕ) (lines others : List TimesLine) → sum_by f (put_all lines others) ≡ sum_by f lines + sum_by f others
all-sum f [] others = omega arith
all-sum f (line ∷ lines) others =
    let here : sum_by f (put_by_since line (put_all lines others)) ≡ f line + sum_by f (put_all lines others) = put-sum f line (put_all lines others) in
    let rest : sum_by f (put_all lines others) ≡ sum_by f lines + sum_by f others = all-sum f lines others in
    let one : sum_by f (line ∷ lines) ≡ f line + sum_by f lines = sum_by-cons f line lines in
    omega (arith, here, rest, one)

sorted-sum : (f : TimesLine → ℕ) (lines : List TimesLine) → sum_by f (by_since lines) ≡ sum_by f lines
sorted-sum f lines = all-sum f lines [] ∙ omega arith

-- of those that are still there, work by work
pub still-sum : (f : TimesLine → ℕ) (S : ScenarioContents) (L : LedgerContents) (s : State) → sum_by f (still_lines S L s) ≡ sum_below (λ w. sum_by f (still_of L s w)) (length S.works)
unfolding sum_from
still-sum f S L s =
    let n = length S.works in
    let value : ℕ → ℕ = λ w. sum_by f (still_of L s w) in
    let split : sum_below value 0 + sum_from value 0 n ≡ sum_below value (0 + n) = sum-split value 0 n in
    let all : sum_below value (0 + n) ≡ sum_below value n = ap (sum_below value) (omega arith) in
    let flat : sum_by f (flat_map (still_of L s) (below n)) ≡ sum_from value 0 n = flat-sum f (still_of L s) 0 n in
    let sorted : sum_by f (still_lines S L s) ≡ sum_by f (flat_map (still_of L s) (below n)) = sorted-sum f (flat_map (still_of L s) (below n)) in
    joined (sum_by f (still_lines S L s)) (sum_by f (flat_map (still_of L s) (below n))) (sum_from value 0 n) (sum_below value (0 + n)) (sum_below value n) sorted flat split all
  where
    joined : (a b c d e : ℕ) → a ≡ b → b ≡ c → 0 + c ≡ d → d ≡ e → a ≡ e
    joined a b c d e p q r t = omega arith

pub long-sum : (lines : List TimesLine) → length lines ≡ sum_by (λ line. 1) lines
long-sum [] = refl
long-sum (line ∷ lines) =
    let rest : length lines ≡ sum_by (λ (other : TimesLine). 1) lines = long-sum lines in
    let one : sum_by (λ (other : TimesLine). 1) (line ∷ lines) ≡ 1 + sum_by (λ (other : TimesLine). 1) lines = sum_by-cons (λ (other : TimesLine). 1) line lines in
    omega (arith, rest, one)
