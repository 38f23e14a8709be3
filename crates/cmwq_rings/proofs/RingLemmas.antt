-- Who leads to whom: just where there is a chain.
use Rattle.std.proofs.Common.{sym, subst, inl, inr, ◌≡◌, ◌⊎◌, List, [], ◌∷◌, ◌++◌, true, false, ◌&&◌, ◌||◌, bytes_eq}
use Rattle.std.specs.List.{list_any}
use Rattle.std.proofs.lemmas.Bool.{and_from, and_parts, false_from_ne_true, or_cases, or_left, or_right}
use Rattle.std.proofs.lemmas.List.{append_assoc}
use Rattle.cmwq_rings.proofs.ChainLemmas.{chain_joined, chain_more, first_before, named_so, pair_is, same_names}
use Rattle.cmwq_rings.specs.Rings.{HasNoRing, IsChain, IsRing, Name, Pair, goes_in_ring, is_before, is_pair, leads}

-- A chain leads there.

-- over the first pair, where both its parts are come to
over_first : (pair : Pair) (before : List Pair) (one other : Name) → (bytes_eq pair.0 one || leads before one pair.0) ≡ true
    → (bytes_eq pair.1 other || leads before pair.1 other) ≡ true → leads (pair ∷ before) one other ≡ true
over_first pair before one other to_first from_second =
    or_right (leads before one other) _ (and_from (bytes_eq pair.0 one || leads before one pair.0) (bytes_eq pair.1 other || leads before pair.1 other) to_first from_second)

without_first : (pair : Pair) (before : List Pair) (one other : Name) → leads before one other ≡ true → leads (pair ∷ before) one other ≡ true
without_first pair before one other e =
    or_left (leads before one other) ((bytes_eq pair.0 one || leads before one pair.0) && (bytes_eq pair.1 other || leads before pair.1 other)) e

leads_once : (before : List Pair) (one other : Name) → is_before before one other ≡ true → leads before one other ≡ true
leads_once [] one other e = e
leads_once (pair ∷ before) one other e =
    elim (or_cases (is_pair one other pair) (is_before before one other) e) [
      | inl here ↦
          let both = and_parts (bytes_eq pair.0 one) (bytes_eq pair.1 other) here in
          over_first pair before one other (or_left (bytes_eq pair.0 one) (leads before one pair.0) both.0) (or_left (bytes_eq pair.1 other) (leads before pair.1 other) both.1)
      | inr there ↦ without_first pair before one other (leads_once before one other there)
    ]

-- one step more, where that is so over the pairs behind the first
step_more : (pair : Pair) (before : List Pair) (one next other : Name)
    → ((end : Name) → is_before before one next ≡ true → leads before next end ≡ true → leads before one end ≡ true)
    → (is_pair one next pair ≡ true) ⊎ (is_before before one next ≡ true)
    → (leads before next other ≡ true) ⊎ (((bytes_eq pair.0 next || leads before next pair.0) && (bytes_eq pair.1 other || leads before pair.1 other)) ≡ true)
    → leads (pair ∷ before) one other ≡ true
step_more pair before one next other again (inl here) (inl far) =
    over_first pair before one other
    (or_left (bytes_eq pair.0 one) (leads before one pair.0) (named_so pair.0 one (pair_is one next pair here).0))
    (or_right (bytes_eq pair.1 other) (leads before pair.1 other) (subst (λ (n : Name). leads before n other ≡ true) (sym (pair_is one next pair here).1) far))
step_more pair before one next other again (inl here) (inr over) =
    over_first pair before one other
    (or_left (bytes_eq pair.0 one) (leads before one pair.0) (named_so pair.0 one (pair_is one next pair here).0))
    (and_parts (bytes_eq pair.0 next || leads before next pair.0) (bytes_eq pair.1 other || leads before pair.1 other) over).1
step_more pair before one next other again (inr there) (inl far) = without_first pair before one other (again other there far)
step_more pair before one next other again (inr there) (inr over) =
    let both = and_parts (bytes_eq pair.0 next || leads before next pair.0) (bytes_eq pair.1 other || leads before pair.1 other) over in
    over_first pair before one other
    (or_right (bytes_eq pair.0 one) (leads before one pair.0)
    (elim (or_cases (bytes_eq pair.0 next) (leads before next pair.0) both.0) [
      | inl same ↦ leads_once before one pair.0 (subst (λ (n : Name). is_before before one n ≡ true) (sym (same_names pair.0 next same)) there)
      | inr far ↦ again pair.0 there far
    ]))
    both.1

leads_on : (before : List Pair) (one next other : Name) → is_before before one next ≡ true → leads before next other ≡ true → leads before one other ≡ true
leads_on [] one next other e far = far
leads_on (pair ∷ before) one next other e far =
    step_more pair before one next other (λ end there way. leads_on before one next end there way)
    (or_cases (is_pair one next pair) (is_before before one next) e)
    (or_cases (leads before next other) ((bytes_eq pair.0 next || leads before next pair.0) && (bytes_eq pair.1 other || leads before pair.1 other)) far)

pub chain_leads : (before : List Pair) (others : List Name) (one other : Name) → IsChain before (one ∷ (others ++ other ∷ [])) → leads before one other ≡ true
chain_leads before [] one other chain = leads_once before one other chain.0
chain_leads before (next ∷ others) one other chain = leads_on before one next other chain.0 (chain_leads before others next other chain.1)

-- And where one leads there, there is a chain.

abbrev Way : List Pair → Name → Name → Type 0
Way before one other = (others : List Name) × IsChain before (one ∷ (others ++ other ∷ []))

way_more : (pair : Pair) (before : List Pair) (one other : Name) → Way before one other → Way (pair ∷ before) one other
way_more pair before one other way = (way.0, chain_more pair before (one ∷ (way.0 ++ other ∷ [])) way.1)

way_over : (pair : Pair) (before : List Pair) (one other : Name) → ((first second : Name) → leads before first second ≡ true → Way before first second)
    → (bytes_eq pair.0 one || leads before one pair.0) ≡ true → (bytes_eq pair.1 other || leads before pair.1 other) ≡ true → Way (pair ∷ before) one other
way_over pair before one other again to_first from_second =
    from_one (or_cases (bytes_eq pair.0 one) (leads before one pair.0) to_first) (to_other (or_cases (bytes_eq pair.1 other) (leads before pair.1 other) from_second))
  where
    to_other : (bytes_eq pair.1 other ≡ true) ⊎ (leads before pair.1 other ≡ true) → Way (pair ∷ before) pair.0 other
    to_other (inl same) = ([], (subst (λ (n : Name). is_before (pair ∷ before) pair.0 n ≡ true) (same_names pair.1 other same) (first_before pair before), tt))
    to_other (inr far) =
        let way = way_more pair before pair.1 other (again pair.1 other far) in
        (pair.1 ∷ way.0, (first_before pair before, way.1))

    from_one : (bytes_eq pair.0 one ≡ true) ⊎ (leads before one pair.0 ≡ true) → Way (pair ∷ before) pair.0 other → Way (pair ∷ before) one other
    from_one (inl same) way = subst (λ (n : Name). Way (pair ∷ before) n other) (same_names pair.0 one same) way
    from_one (inr far) way =
        let begun = way_more pair before one pair.0 (again one pair.0 far) in (
          begun.0 ++ pair.0 ∷ way.0,
          subst (λ (names : List Name). IsChain (pair ∷ before) (one ∷ names))
              (sym (append_assoc begun.0 (pair.0 ∷ way.0) (other ∷ [])))
              (chain_joined (pair ∷ before) (one ∷ begun.0) pair.0 (way.0 ++ other ∷ []) begun.1 way.1),
        )

pub leads_by_chain : (before : List Pair) (one other : Name) → leads before one other ≡ true → Way before one other
leads_by_chain [] one other e = absurd cc
leads_by_chain (pair ∷ before) one other e =
    elim (or_cases (leads before one other) ((bytes_eq pair.0 one || leads before one pair.0) && (bytes_eq pair.1 other || leads before pair.1 other)) e) [
      | inl far ↦ way_more pair before one other (leads_by_chain before one other far)
      | inr over ↦
          let both = and_parts (bytes_eq pair.0 one || leads before one pair.0) (bytes_eq pair.1 other || leads before pair.1 other) over in
          way_over pair before one other (λ first second way. leads_by_chain before first second way) both.0 both.1
    ]

-- Rings.

-- the first of a chain of two or more has a pair
pub chain_begins : (before : List Pair) (others : List Name) (one other : Name) → IsChain before (one ∷ (others ++ other ∷ []))
    → (next : Name) × (is_before before one next ≡ true)
chain_begins before [] one other chain = (other, chain.0)
chain_begins before (next ∷ others) one other chain = (next, chain.0)

back_to_itself : (all before : List Pair) (one next : Name) → is_before before one next ≡ true → leads all one one ≡ true
    → list_any (λ (pair : Pair). leads all pair.0 pair.0) before ≡ true
back_to_itself all [] one next e back = e
back_to_itself all (pair ∷ before) one next e back =
    elim (or_cases (is_pair one next pair) (is_before before one next) e) [
      | inl here ↦
          or_left (leads all pair.0 pair.0) (list_any (λ (pair : Pair). leads all pair.0 pair.0) before)
          (subst (λ (n : Name). leads all n n ≡ true) (sym (pair_is one next pair here).0) back)
      | inr there ↦
          or_right (leads all pair.0 pair.0) (list_any (λ (pair : Pair). leads all pair.0 pair.0) before) (back_to_itself all before one next there back)
    ]

pub ring_goes : (before : List Pair) (ring : List Name) → IsRing before ring → goes_in_ring before ≡ true
ring_goes before [] is = absurd is
ring_goes before (name ∷ others) is =
    let begins = chain_begins before others name name is in
    back_to_itself before before name begins.0 begins.1 (chain_leads before others name name is)

ring_among : (all before : List Pair) → list_any (λ (pair : Pair). leads all pair.0 pair.0) before ≡ true → (ring : List Name) × IsRing all ring
ring_among all [] e = absurd cc
ring_among all (pair ∷ before) e =
    elim (or_cases (leads all pair.0 pair.0) (list_any (λ (pair : Pair). leads all pair.0 pair.0) before) e) [
      | inl here ↦ let way = leads_by_chain all pair.0 pair.0 here in (pair.0 ∷ way.0, way.1)
      | inr there ↦ ring_among all before there
    ]

pub goes_by_ring : (before : List Pair) → goes_in_ring before ≡ true → (ring : List Name) × IsRing before ring
goes_by_ring before e = ring_among before before e

-- where there is none, none is told
pub none_goes : (before : List Pair) → HasNoRing before → goes_in_ring before ≡ false
none_goes before none = false_from_ne_true (goes_in_ring before) (λ e. let ring = goes_by_ring before e in none ring.0 ring.1)
