-- The lowest number that passes a test.
use Rattle.std.proofs.Common.{◌≡◌, ℕ, suc, ◌<◌, Bool, true, false, Some, None, ap, ◌∙◌}
use Rattle.cmwq_types.proofs.FirstLemmas.{by_least-order, first_below-from, first_below-none}
use Rattle.cmwq_types.specs.First.{by_least, first_with}
use Rattle.cmwq_debug.specs.Breaks.{lowest}

-- a number that passes, below which none does
pub lowest-is : (test : ℕ → Bool) (m n : ℕ) → lowest test m ≡ None → test m ≡ true → m < n → lowest test n ≡ Some m
lowest-is test m n none passes less = first_below-from test m none passes n less

-- one more that fails
pub lowest-more : (test : ℕ → Bool) (m : ℕ) → lowest test m ≡ None → test m ≡ false → lowest test (suc m) ≡ None
lowest-more test m none fails =
    ap (λ (b : Bool). first_with (by_least (λ k. k)) m b (lowest test m)) fails ∙ none

-- none, where all fail
pub lowest-none : (test : ℕ → Bool) (n : ℕ) → ((k : ℕ) → k < n → test k ≡ false) → lowest test n ≡ None
lowest-none test n fails = first_below-none (by_least (λ k. k)) test n (by_least-order (λ k. k)) fails
