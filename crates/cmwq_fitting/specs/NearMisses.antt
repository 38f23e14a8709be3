-- Which word is meant by one that doesn't fit.
use Rattle.std.specs.Prelude.{ℕ, ◌+◌, ◌*◌, Bool, List, [], Option, Some, None, codes, drop, take, length, map, max, nat_le, slice_index_or, if◌then◌else◌}
use Rattle.std.specs.Str.{bytes_eq}
use Rattle.cmwq_types.specs.Faults.{within}
use Rattle.cmwq_fitting.specs.Nearness.{apart, nearest}

-- in small letters, and without the `WQ_` of a kernel's flags
abbrev pub small_letter : ℕ → ℕ
small_letter byte = if within 65 90 byte then byte + 32 else byte

abbrev pub without_prefix : List ℕ → List ℕ
without_prefix word = if bytes_eq (take 3 word) (codes "wq_") then drop 3 word else word

abbrev pub plain_form : List ℕ → List ℕ
plain_form word = without_prefix (map small_letter word)

-- at most half of the longer one's letters are apart
abbrev pub is_near : List ℕ → List ℕ → Bool
is_near word other = nat_le (2 * apart word other) (max (length word) (length other))

abbrev pub if_near : (words : List (List ℕ)) → List ℕ → Option ℕ → Option ℕ
if_near words word None = None
if_near words word (Some k) = if is_near word (slice_index_or words k []) then Some k else None

-- the nearest of the words, where that is near
abbrev pub near_miss : (words : List (List ℕ)) → List ℕ → Option ℕ
near_miss words word = if_near words (plain_form word) (nearest words (plain_form word))
