-- How the option that asks for advice is taken out of the words of a command line.
use Rattle.std.specs.Prelude.{◌≡◌, ℕ, suc, Bool, true, false, List, [], ◌++◌, Option, Some, None, length, take, drop, codes, slice_index_or}
use Rattle.std.specs.Str.{bytes_eq}
use Rattle.clap.specs.Words.{Text}
use Rattle.cmwq_types.specs.First.{by_least, first_below}

-- whether it stands there among the words
abbrev pub stands_at : List Text → ℕ → Bool
stands_at words k = bytes_eq (slice_index_or words k []) (codes "--explain")

-- where it first stands among the first n words
abbrev pub first_place : List Text → ℕ → Option ℕ
first_place words n = first_below (by_least (λ k. k)) (stands_at words) n

-- the first one is gone; or there is none, and all words are left
abbrev pub IsTaken : (words left : List Text) → Bool → Type 0
IsTaken words left true = (k : ℕ) × (first_place words (length words) ≡ Some k) × (left ≡ take k words ++ drop (suc k) words)
IsTaken words left false = (first_place words (length words) ≡ None) × (left ≡ words)
