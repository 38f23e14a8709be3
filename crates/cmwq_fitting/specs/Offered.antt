-- What may stand at a place of a line.
use Rattle.std.specs.Prelude.{◌≡◌, ◌+◌, ◌++◌, ℕ, Bool, false, not, List, Option, Some, None, codes, length, map}
use Rattle.std.specs.Fmt.{decimal}
use Rattle.std.specs.List.{filter}
use Rattle.cmwq_types.specs.First.{by_least, first_below}
use Rattle.cmwq_fitting.specs.Fitting.{fits, may_end}
use Rattle.cmwq_fitting.specs.KnownWords.{is_known}
use Rattle.cmwq_fitting.specs.NumberLimits.{IsLimits}
use Rattle.cmwq_fitting.specs.declared.offer.Offer.{Offer}

-- a name, by its number, and the first of these that isn't known
abbrev pub numbered_name : ℕ → List ℕ
numbered_name n = codes "n" ++ decimal n

abbrev pub unknown_name : List (List ℕ) → Option ℕ
unknown_name known = first_below (by_least (λ n. n)) (λ n. not (is_known known (numbered_name n))) (length known + 1)

-- a name that isn't known fits: all such names are alike
abbrev pub new_name_fits : (line : ℕ) (front : List ℕ) → Option ℕ → Bool
new_name_fits line front None = false
new_name_fits line front (Some n) = fits line front (numbered_name n)

module _ (line : ℕ) (front : List ℕ) (known : List (List ℕ)) where
  -- this is what may stand at the place, of these known words: of words and names just those that fit
  pub record IsOfferAt (offer : Offer) : Type 0 where
    pub words : map (λ word. word.now) offer.words.items ≡ filter (fits line front) known
    pub new_name : offer.new_name ≡ new_name_fits line front (unknown_name known)
    pub limits : IsLimits line front offer.limits
    pub end : offer.may_end ≡ may_end line front
