-- Pairs, and chains of them.
use Rattle.std.proofs.Common.{refl, ◌≡◌, ◌≢◌, List, [], ◌∷◌, ◌++◌, true, false, bytes_eq}
use Rattle.std.proofs.lemmas.Bool.{and_from, and_parts, false_from_ne_true, or_left, or_right}
use Rattle.std.specs.Cmp.Lexicographic.{bytes_decides}
use Rattle.cmwq_rings.specs.Rings.{IsChain, Name, Pair, is_before, is_pair}

pub same_names : (one other : Name) → bytes_eq one other ≡ true → one ≡ other
same_names one other e = (bytes_decides one other).0 e

pub named_so : (one other : Name) → one ≡ other → bytes_eq one other ≡ true
named_so one other e = (bytes_decides one other).1 e

pub other_names : (one other : Name) → one ≢ other → bytes_eq one other ≡ false
other_names one other apart = false_from_ne_true (bytes_eq one other) (λ same. apart (same_names one other same))

pub pair_is : (one other : Name) (pair : Pair) → is_pair one other pair ≡ true → (pair.0 ≡ one) × (pair.1 ≡ other)
pair_is one other pair e =
    let both = and_parts (bytes_eq pair.0 one) (bytes_eq pair.1 other) e in
    (same_names pair.0 one both.0, same_names pair.1 other both.1)

-- the first of all pairs is one of them
pub first_before : (pair : Pair) (before : List Pair) → is_before (pair ∷ before) pair.0 pair.1 ≡ true
first_before pair before =
    or_left (is_pair pair.0 pair.1 pair) (is_before before pair.0 pair.1)
    (and_from (bytes_eq pair.0 pair.0) (bytes_eq pair.1 pair.1) (named_so pair.0 pair.0 refl) (named_so pair.1 pair.1 refl))

-- a chain stays one with a pair more
pub chain_more : (pair : Pair) (before : List Pair) (names : List Name) → IsChain before names → IsChain (pair ∷ before) names
chain_more pair before [] chain = tt
chain_more pair before (name ∷ []) chain = tt
chain_more pair before (name ∷ next ∷ others) chain =
    (or_right (is_pair name next pair) (is_before before name next) chain.0, chain_more pair before (next ∷ others) chain.1)

-- two chains that meet in a name are one
pub chain_joined : (before : List Pair) (names : List Name) (name : Name) (others : List Name) → IsChain before (names ++ name ∷ []) → IsChain before (name ∷ others)
    → IsChain before (names ++ name ∷ others)
chain_joined before [] name others one other = other
chain_joined before (first ∷ []) name others one other = (one.0, other)
chain_joined before (first ∷ second ∷ names) name others one other = (one.0, chain_joined before (second ∷ names) name others one.1 other)

-- a chain without its last
pub chain_begun : (before : List Pair) (names : List Name) (name : Name) → IsChain before (names ++ name ∷ []) → IsChain before names
chain_begun before [] name chain = tt
chain_begun before (first ∷ []) name chain = tt
chain_begun before (first ∷ second ∷ names) name chain = (chain.0, chain_begun before (second ∷ names) name chain.1)
