-- Which numbers fit a place.
use Rattle.std.specs.Prelude.{◌≡◌, ◌≤◌, ◌+◌, ◌⊎◌, ℕ, Bool, true, false, List, Option, Some, None}
use Rattle.std.specs.Fmt.{decimal}
use Rattle.cmwq_fitting.specs.Fitting.{fits}
use Rattle.cmwq_fitting.specs.declared.numbers.Limits.{Limits}

module _ (line : ℕ) (front : List ℕ) where
  abbrev pub number_fits : ℕ → Bool
  number_fits n = fits line front (decimal n)

  -- The least and the greatest number of those that fit: both fit; what is below the one doesn't, nor what is behind the other.
  pub record AreLimits (limits : Limits) : Type 0 where
    pub least : (limits.low ≡ 0) ⊎ ((limits.low ≡ 1) × (number_fits 0 ≡ false))
    pub low : number_fits limits.low ≡ true
    pub high : number_fits limits.high ≡ true
    pub behind : number_fits (limits.high + 1) ≡ false
    pub in_order : limits.low ≤ limits.high

  -- these are the limits; without any, no number fits: neither 0 nor 1, or a number without end
  abbrev pub IsLimits : Option Limits → Type 0
  IsLimits (Some limits) = AreLimits limits
  IsLimits None = ((number_fits 0 ≡ false) × (number_fits 1 ≡ false)) ⊎ (number_fits 4294967296 ≡ true)
