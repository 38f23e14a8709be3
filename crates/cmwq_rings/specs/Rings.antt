-- Rings of actors each of whom begins only when the one before has ended.
use Rattle.std.specs.Prelude.{◌≡◌, ℕ, List, [], ◌∷◌, ◌++◌, Bool, true, false, ◌&&◌, ◌||◌, map}
use Rattle.std.specs.List.{list_any}
use Rattle.std.specs.Str.{bytes_eq}
use Rattle.std.specs.Borrow.{Bor}
use Rattle.cmwq_exploration.specs.declared.exploration.Precedence.{Precedence}

abbrev pub Name : Type 0
Name = List ℕ

abbrev pub names_of : List (Bor Name) → List Name
names_of names = map (λ name. name.now) names

-- the first of a pair has to end before the second begins
abbrev pub Pair : Type 0
Pair = Name × Name

abbrev pub pair_of : Precedence → Pair
pair_of precedence = (precedence.first.now, precedence.then.now)

abbrev pub pairs_of : List Precedence → List Pair
pairs_of precedences = map pair_of precedences

-- this is one of the pairs
abbrev pub is_pair : (first second : Name) → Pair → Bool
is_pair first second pair = bytes_eq pair.0 first && bytes_eq pair.1 second

abbrev pub is_before : List Pair → (first second : Name) → Bool
is_before before first second = list_any (is_pair first second) before

-- each of the names is before the next
abbrev pub IsChain : List Pair → List Name → Type 0
IsChain before [] = Unit {0}
IsChain before (name ∷ []) = Unit {0}
IsChain before (name ∷ next ∷ others) = (is_before before name next ≡ true) × IsChain before (next ∷ others)

-- and the last of them is before the first
abbrev pub IsRing : List Pair → List Name → Type 0
IsRing before [] = ⊥
IsRing before (name ∷ others) = IsChain before (name ∷ (others ++ name ∷ []))

abbrev pub HasNoRing : List Pair → Type 0
HasNoRing before = (ring : List Name) → IsRing before ring → ⊥

-- whether one leads to another by a chain of these pairs: without the first of them, or over it
abbrev pub leads : List Pair → (one other : Name) → Bool
leads [] one other = false
leads (pair ∷ before) one other =
    leads before one other || ((bytes_eq pair.0 one || leads before one pair.0) && (bytes_eq pair.1 other || leads before pair.1 other))

-- whether some actor leads back to itself
abbrev pub goes_in_ring : List Pair → Bool
goes_in_ring before = list_any (λ pair. leads before pair.0 pair.0) before
