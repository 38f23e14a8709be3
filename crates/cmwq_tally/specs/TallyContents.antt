-- What a contract sees of `Tally`: a list with, for each class, how many works stand in it.
use Rattle.std.specs.Prelude.{◌≡◌, ◌≢◌, ℕ, ◌+◌, ◌-◌, ◌<◌, ◌≤◌, Bool, false, ◌==◌, List, length, replicate, Option, Some, None, slice_index_or, slice_set}
use Rattle.cmwq_types.specs.First.{count_below}

-- how many works stand in the class; none where there is no such class
abbrev pub count_of : List ℕ → ℕ → ℕ
count_of counts class = slice_index_or counts class 0

-- one work fewer in the class, and one more
abbrev pub with_one_fewer : List ℕ → Option ℕ → List ℕ
with_one_fewer counts (Some i) = slice_set counts i (count_of counts i - 1)
with_one_fewer counts None = counts

abbrev pub with_one_more : List ℕ → Option ℕ → List ℕ
with_one_more counts (Some i) = slice_set counts i (count_of counts i + 1)
with_one_more counts None = counts

-- a work goes from one class to another
abbrev pub changed : List ℕ → Option ℕ → Option ℕ → List ℕ
changed counts from to = with_one_more (with_one_fewer counts from) to

-- Works in their classes.

-- whether this number is that of the class, if there is one
abbrev pub is_class : ℕ → Option ℕ → Bool
is_class i (Some j) = j == i
is_class i None = false

-- of each class the tally has the count of the works, numbered below a bound, that stand in it
pub record IsTallied (counts : List ℕ) (class : ℕ → Option ℕ) (works : ℕ) : Type 0 where
  pub counted : (i : ℕ) → i < length counts → count_of counts i ≡ count_below (λ w. is_class i (class w)) works

-- Where no work stands in a class, nothing is counted.
abbrev pub EmptyTalliesAreRight : Type 0
EmptyTalliesAreRight =
    (classes : ℕ) → (class : ℕ → Option ℕ) → (works : ℕ) → ((w : ℕ) → w < works → class w ≡ None) → IsTallied (replicate classes 0) class works

-- One work changes its class, and the tally with it.
abbrev pub ChangesKeepTallies : Type 0
ChangesKeepTallies =
    (counts : List ℕ) → (class later : ℕ → Option ℕ) → (works w : ℕ) → IsTallied counts class works → w < works → ((v : ℕ) → v ≢ w → class v ≡ later v)
    → IsTallied (changed counts (class w) (later w)) later works

-- No class has more works than there are.
abbrev pub TalliesCountFewWorks : Type 0
TalliesCountFewWorks = (counts : List ℕ) → (class : ℕ → Option ℕ) → (works i : ℕ) → IsTallied counts class works → count_of counts i ≤ works

-- The class of a work has at least one.
abbrev pub TalliesCountEachWork : Type 0
TalliesCountEachWork =
    (counts : List ℕ) → (class : ℕ → Option ℕ) → (works w i : ℕ) → IsTallied counts class works → w < works → class w ≡ Some i → i < length counts → 0 < count_of counts i
