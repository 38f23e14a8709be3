-- Which of some words is most like another.
use Rattle.std.specs.Prelude.{ℕ, suc, List, [], ◌∷◌, true, Option, length, drop, reverse, max, ◌-◌, ◌==◌, if◌then◌else◌, slice_index_or}
use Rattle.cmwq_types.specs.First.{by_least, first_below}

-- how many letters both begin with, and how many both end with
abbrev pub common_front : List ℕ → List ℕ → ℕ
common_front [] other = 0
common_front (x ∷ one) [] = 0
common_front (x ∷ one) (y ∷ other) = if x == y then suc (common_front one other) else 0

abbrev pub common_back : List ℕ → List ℕ → ℕ
common_back one other = common_front (reverse one) (reverse other)

-- of the longer one, once what both begin with is cut off, and then what both end with
abbrev pub left_apart : List ℕ → List ℕ → ℕ
left_apart one other = max (length one) (length other) - common_back one other

abbrev pub apart : List ℕ → List ℕ → ℕ
apart one other = left_apart (drop (common_front one other) one) (drop (common_front one other) other)

-- the one that is the fewest letters apart from the word, and of such ones the first
abbrev pub apart_from : (words : List (List ℕ)) → List ℕ → ℕ → ℕ
apart_from words word k = apart word (slice_index_or words k [])

abbrev pub nearest : (words : List (List ℕ)) → List ℕ → Option ℕ
nearest words word = first_below (by_least (apart_from words word)) (λ k. true) (length words)
