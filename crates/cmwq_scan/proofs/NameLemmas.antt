-- Names as keys of a set: a test of a name, over the keys.
use Rattle.std.proofs.Common.{◌≡◌, ℕ, suc, ◌+◌, ◌<◌, Bool, true, false, not, cond, ◌||◌, List, [], ◌∷◌, ◌++◌, length, None, Some, get_or, ap, sym, ◌∙◌, refl, arith, position, nat_lt}
use Rattle.std.specs.Prelude.{map, slice_get}
use Rattle.std.specs.List.{All, AllByRecursion, IsDistinct, list_any, position_or_len}
use Rattle.std.proofs.lemmas.Bool.Decides.{nat_tests}
use Rattle.std.proofs.lemmas.List.Sums.{position_or_len_is}
use Rattle.std.proofs.lemmas.Map.Keys.{apart_from_distinct}
use Rattle.std.proofs.lemmas.Option.{get_or_from_slice_get, slice_get_within}
use Rattle.std.proofs.lemmas.List.Elements.{recursion_from_All}
use Rattle.std.specs.Str.{bytes_eq}
use Rattle.std.proofs.lemmas.Cmp.{nat_list_eq_equiv}
use Rattle.cmwq_types.specs.Name.{is_name}
use Rattle.std.specs.Cmp.Lexicographic.{bytes_decides}

lt_yes : (i n : ℕ) → i < n → nat_lt i n ≡ true
lt_yes i n below = grind (arith, nat_tests)

pub bytes_eq-sym : (a b : List ℕ) → bytes_eq a b ≡ bytes_eq b a
bytes_eq-sym a b = nat_list_eq_equiv.symm a b

module _ {K : Type 0} (bytes : K → List ℕ) (name : List ℕ) where
  pub list_any-keys : (keys : List K) → list_any (λ key. bytes_eq name (bytes key)) keys ≡ list_any (λ other. bytes_eq other name) (map bytes keys)
  list_any-keys [] = refl
  list_any-keys (key ∷ keys) =
      ap (λ (b : Bool). b || list_any (λ key. bytes_eq name (bytes key)) keys) (bytes_eq-sym name (bytes key))
      ∙ ap (λ (b : Bool). bytes_eq (bytes key) name || b) (list_any-keys keys)

  place : (keys : List K) → position_or_len (λ key. bytes_eq name (bytes key)) keys ≡ position_or_len (λ other. bytes_eq other name) (map bytes keys)
  place [] = refl
  place (key ∷ keys) =
      ap (λ (b : Bool). cond (not b) (1 + position_or_len (λ key. bytes_eq name (bytes key)) keys) 0) (bytes_eq-sym name (bytes key))
      ∙ ap (λ (n : ℕ). cond (not (bytes_eq (bytes key) name)) (1 + n) 0) (place keys)

  count : (keys : List K) → length keys ≡ length (map bytes keys)
  count [] = refl
  count (key ∷ keys) = ap (λ (n : ℕ). suc n) (count keys)

  pub position-keys : (keys : List K) → position (λ key. bytes_eq name (bytes key)) keys ≡ position (λ other. bytes_eq other name) (map bytes keys)
  position-keys keys =
      ap (λ (n : ℕ). cond (nat_lt n (length keys)) (Some n) None) (place keys)
      ∙ ap (λ (n : ℕ). let at = position_or_len (λ other. bytes_eq other name) (map bytes keys) in cond (nat_lt at n) (Some at) None) (count keys)

  more : (keys : List K) (key : K) → map bytes (keys ++ key ∷ []) ≡ map bytes keys ++ bytes key ∷ []
  more [] key = refl
  more (other ∷ keys) key = ap (λ (names : List (List ℕ)). bytes other ∷ names) (more keys key)

  -- a name that isn't there goes last
  pub added : (keys : List K) (key : K) → bytes key ≡ name → list_any (λ other. bytes_eq other name) (map bytes keys) ≡ false → map bytes (cond (list_any (λ other. bytes_eq name (bytes other)) keys) keys (keys ++ key ∷ [])) ≡ map bytes keys ++ name ∷ []
  added keys key same absent =
      ap (λ (b : Bool). map bytes (cond b keys (keys ++ key ∷ []))) (list_any-keys keys ∙ absent)
      ∙ more keys key
      ∙ ap (λ (last : List ℕ). map bytes keys ++ last ∷ []) same

  -- a name that is among the keys is a name, since each of them is
  pub key_is_name : (keys : List K) → All (λ key. is_name (bytes key) ≡ true) keys → list_any (λ key. bytes_eq name (bytes key)) keys ≡ true → is_name name ≡ true
  key_is_name keys names there = by keys (recursion_from_All (λ key. is_name (bytes key) ≡ true) keys names) there
    where
      by_first : (same : Bool) (key : K) (others : List K) → bytes_eq name (bytes key) ≡ same → is_name (bytes key) ≡ true → (list_any (λ key. bytes_eq name (bytes key)) others ≡ true → is_name name ≡ true) → (same || list_any (λ key. bytes_eq name (bytes key)) others) ≡ true → is_name name ≡ true
      by_first true key others same named later there = ap is_name ((bytes_decides name (bytes key)).0 same) ∙ named
      by_first false key others same named later there = later there

      by : (keys : List K) → AllByRecursion (λ key. is_name (bytes key) ≡ true) keys → list_any (λ key. bytes_eq name (bytes key)) keys ≡ true → is_name name ≡ true
      by [] names there = cc
      by (key ∷ keys) names there = by_first (bytes_eq name (bytes key)) key keys refl names.0 (by keys names.1) there

  -- the name of a key at a place, where no two keys have one name
  pub position_at : (keys : List K) (i : ℕ) (key : K) → IsDistinct (λ x y. bytes_eq (bytes x) (bytes y)) keys → slice_get keys i ≡ Some key → bytes_eq (bytes key) name ≡ true → position (λ other. bytes_eq other name) (map bytes keys) ≡ Some i
  position_at keys i key distinct there same =
      let inside : i < length keys = slice_get_within keys i key there in
      let named : bytes key ≡ name = (bytes_decides (bytes key) name).0 same in
      let at : get_or keys i key ≡ key = get_or_from_slice_get keys i key key there in
      let first : position_or_len (λ key. bytes_eq name (bytes key)) keys ≡ i =
      position_or_len_is (λ key. bytes_eq name (bytes key)) keys i key (omega (arith, inside))
      (λ k below.
      bytes_eq-sym name (bytes (get_or keys k key)) ∙ ap (λ (n : List ℕ). bytes_eq (bytes (get_or keys k key)) n) (sym named ∙ ap bytes (sym at))
      ∙ apart_from_distinct (λ x y. bytes_eq (bytes x) (bytes y)) keys k i key distinct below inside)
      (λ _. ap (λ (x : K). bytes_eq name (bytes x)) at ∙ bytes_eq-sym name (bytes key) ∙ same) in
      sym (position-keys keys)
      ∙ ap (λ (n : ℕ). cond (nat_lt n (length keys)) (Some n) None) first
      ∙ ap (λ (b : Bool). cond b (Some i) None) (lt_yes i (length keys) inside)

  -- a key at a place is a name, since each of them is
  pub name_at : (keys : List K) (i : ℕ) (key : K) → All (λ key. is_name (bytes key) ≡ true) keys → slice_get keys i ≡ Some key → bytes_eq (bytes key) name ≡ true → is_name name ≡ true
  name_at keys i key names there same =
      ap is_name (sym ((bytes_decides (bytes key) name).0 same))
      ∙ ap (λ (k : K). is_name (bytes k)) (sym (get_or_from_slice_get keys i key key there))
      ∙ names i key (slice_get_within keys i key there)
