-- The search for a ring through an actor.
use Rattle.std.proofs.Common.{ap, sym, subst, refl, inl, inr, arith, ◌≡◌, ◌≢◌, ◌∙◌, ◌⊎◌, ◌<◌, ◌≤◌, ◌+◌, ℕ, zero, suc, List, [], ◌∷◌, ◌++◌, true, false, Option, None, Some, bytes_eq, get_or, length, take}
use Rattle.std.specs.List.{Contains, remove}
use Rattle.std.proofs.lemmas.Bool.{and_left, cases_eq, false_from_ne_true, false≢true, or_cases, or_from, or_left, or_right}
use Rattle.std.proofs.lemmas.List.{take_all, take_more}
use Rattle.std.specs.Option.{MatchOption, is_some}
use Rattle.std.proofs.lemmas.List.Elements.{Contains-append_left, Contains-push, Contains-push_cases}
use Rattle.cmwq_exploration.specs.declared.exploration.Precedence.{Precedence}
use Rattle.cmwq_rings.proofs.ChainLemmas.{chain_begun, chain_joined, first_before, named_so, other_names, pair_is, same_names}
use Rattle.cmwq_rings.proofs.RingLemmas.{chain_begins, ring_goes}
use Rattle.cmwq_rings.specs.Rings.{HasNoRing, IsChain, IsRing, Name, Pair, goes_in_ring, is_before, is_pair, names_of, pair_of, pairs_of}
use Rattle.std.specs.Borrow.{Bor}
use Rattle.cmwq_rings.specs.Searching.{BeginsAt, BeginsNone, HasNoRingThrough, IsLast, IsTaken}

-- A pair is taken out.

-- where it is the first one, and where it is one of the others
taken_first : (pair : Pair) (before : List Pair) → IsTaken (pair ∷ before) before pair.0 pair.1
taken_first pair before = record {
  there = first_before pair before;
  others =
      λ one other e. elim (or_cases (is_pair one other pair) (is_before before one other) e) [
        | inl here ↦ let is = pair_is one other pair here in inr (sym is.0, sym is.1)
        | inr there ↦ inl there
      ];
  part = λ one other e. or_right (is_pair one other pair) (is_before before one other) e;
}

taken_later : (pair : Pair) (old new : List Pair) (first second : Name) → IsTaken old new first second → IsTaken (pair ∷ old) (pair ∷ new) first second
taken_later pair old new first second taken = record {
  there = or_right (is_pair first second pair) (is_before old first second) taken.there;
  others =
      λ one other e. elim (or_cases (is_pair one other pair) (is_before old one other) e) [
        | inl here ↦ inl (or_left (is_pair one other pair) (is_before new one other) here)
        | inr there ↦
            elim (taken.others one other there) [
              | inl stays ↦ inl (or_right (is_pair one other pair) (is_before new one other) stays)
              | inr is ↦ inr is
            ]
      ];
  part =
      λ one other e. elim (or_cases (is_pair one other pair) (is_before new one other) e) [
        | inl here ↦ or_left (is_pair one other pair) (is_before old one other) here
        | inr there ↦ or_right (is_pair one other pair) (is_before old one other) (taken.part one other there)
      ];
}

pub taken_at : (left : List Precedence) (place : ℕ) (taken : Precedence) → place < length left → taken ≡ get_or left place taken
    → IsTaken (pairs_of left) (pairs_of (remove left place)) taken.first.now taken.then.now
taken_at [] place taken within is = absurd (omega (arith, within))
taken_at (pair ∷ left) zero taken within is =
    subst (λ (p : Precedence). IsTaken (pairs_of (pair ∷ left)) (pairs_of left) p.first.now p.then.now) (sym is) (taken_first (pair_of pair) (pairs_of left))
taken_at (pair ∷ left) (suc place) taken within is =
    taken_later (pair_of pair) (pairs_of left) (pairs_of (remove left place)) taken.first.now taken.then.now (taken_at left place taken (omega (arith, within)) is)

pub taken_so : (left new : List Precedence) (place : ℕ) (taken : Precedence) (actor : Name) → place < length left → taken ≡ get_or left place taken
    → BeginsAt actor left place → new ≡ remove left place → IsTaken (pairs_of left) (pairs_of new) actor taken.then.now
taken_so left new place taken actor within is begins are =
    subst (λ (l : List Precedence). IsTaken (pairs_of left) (pairs_of l) actor taken.then.now) (sym are)
    (subst (λ (n : Name). IsTaken (pairs_of left) (pairs_of (remove left place)) n taken.then.now) (ap (λ (p : Precedence). p.first.now) is ∙ begins taken)
    (taken_at left place taken within is))

-- no pair begins with a name that none has first
pub none_begins : (left : List Precedence) (name : Name) → BeginsNone name left (length left) → IsLast (pairs_of left) name
none_begins [] name none second = refl
none_begins (pair ∷ left) name none second =
    or_from (is_pair name second (pair_of pair)) (is_before (pairs_of left) name second)
    (and_left (bytes_eq pair.first.now name) (bytes_eq pair.then.now second) (other_names pair.first.now name (none 0 pair (omega arith))))
    (none_begins left name (λ k d within. none (suc k) d (omega (arith, within))) second)

any_default : (xs : List Precedence) (k : ℕ) (d e : Precedence) → k < length xs → get_or xs k d ≡ get_or xs k e
any_default [] k d e within = absurd (omega (arith, within))
any_default (x ∷ xs) zero d e within = refl
any_default (x ∷ xs) (suc k) d e within = any_default xs k d e (omega (arith, within))

pub first_here : (left : List Precedence) (place : ℕ) (e : Precedence) (actor : Name) → place < length left → bytes_eq (get_or left place e).first.now actor ≡ true
    → BeginsAt actor left place
first_here left place e actor within same d =
    ap (λ (p : Precedence). p.first.now) (any_default left place d e within) ∙ same_names (get_or left place e).first.now actor same

pub other_here : (left : List Precedence) (place : ℕ) (e : Precedence) (actor : Name) → place < length left → bytes_eq (get_or left place e).first.now actor ≡ false
    → (d : Precedence) → (get_or left place d).first.now ≢ actor
other_here left place e actor within differ d is =
    false≢true (sym differ ∙ named_so (get_or left place e).first.now actor (ap (λ (p : Precedence). p.first.now) (any_default left place e d within) ∙ is))

pub none_yet : (left : List Precedence) (name : Name) → BeginsNone name left 0
none_yet left name k d within is = absurd (omega (arith, within))

-- none up to here, and not here
pub none_more : (left : List Precedence) (name : Name) (place : ℕ) → BeginsNone name left place → ((d : Precedence) → (get_or left place d).first.now ≢ name)
    → BeginsNone name left (place + 1)
none_more left name place none here k d within = elim (cases_eq k place) [
  | inl same ↦ subst (λ (n : ℕ). (get_or left n d).first.now ≢ name) (sym same) (here d)
  | inr apart ↦ none k d (omega (arith, within, apart))
]

-- The search.

-- a name that was met goes on from the path, or goes nowhere any more
abbrev pub IsDone : (left : List Pair) (path : List Name) → Name → Type 0
IsDone left path name = Contains path name ⊎ IsLast left name

-- the path begins with the actor, if it isn't empty
abbrev pub IsFrom : Name → List Name → Type 0
IsFrom actor [] = Unit {0}
IsFrom actor (name ∷ names) = name ≡ actor

pub record IsSearched (before : List Pair) (actor : Name) (left : List Pair) (path : List Name) : Type 0 where
  pub begins : IsFrom actor path
  pub chain : IsChain before path
  pub met : IsDone left path actor
  -- a pair is left, or was followed
  pub followed : (one other : Name) → is_before before one other ≡ true → (is_before left one other ≡ true) ⊎ ((other ≢ actor) × IsDone left path other)
  pub part : (one other : Name) → is_before left one other ≡ true → is_before before one other ≡ true

from_begun : (actor : Name) (names : List Name) (name : Name) → IsFrom actor (names ++ name ∷ []) → IsFrom actor names
from_begun actor [] name is = tt
from_begun actor (first ∷ names) name is = is

from_more : (actor : Name) (names : List Name) (name next : Name) → IsFrom actor (names ++ name ∷ []) → IsFrom actor ((names ++ name ∷ []) ++ next ∷ [])
from_more actor [] name next is = is
from_more actor (first ∷ names) name next is = is

module _ (before : List Pair) (actor : Name) where
  pub searched_first : IsSearched before actor before (actor ∷ [])
  searched_first = record {
    begins = refl;
    chain = tt;
    met = inl (Contains-push [] actor);
    followed = λ one other e. inl e;
    part = λ one other e. e;
  }

  -- back from a name that goes nowhere any more
  done_back : (left : List Pair) (path : List Name) (name : Name) → IsLast left name → (other : Name) → IsDone left (path ++ name ∷ []) other → IsDone left path other
  done_back left path name last other (inl there) =
      elim (Contains-push_cases path name other there) [
        | inl stays ↦ inl stays
        | inr is ↦ inr (subst (λ (n : Name). IsLast left n) is last)
      ]
  done_back left path name last other (inr done) = inr done

  pub searched_back : (left : List Pair) (path : List Name) (name : Name) → IsLast left name → IsSearched before actor left (path ++ name ∷ [])
      → IsSearched before actor left path
  searched_back left path name last so_far = record {
    begins = from_begun actor path name so_far.begins;
    chain = chain_begun before path name so_far.chain;
    met = done_back left path name last actor so_far.met;
    followed =
        λ one other e. elim (so_far.followed one other e) [
          | inl there ↦ inl there
          | inr both ↦ inr (both.0, done_back left path name last other both.1)
        ];
    part = so_far.part;
  }

  -- on by a pair
  chain_on : (left new : List Pair) (path : List Name) (name next : Name) → IsTaken left new name next → IsSearched before actor left (path ++ name ∷ [])
      → IsChain before ((path ++ name ∷ []) ++ next ∷ [])
  chain_on left new path name next taken so_far =
      subst (λ (names : List Name). IsChain before names) (sym (append_two path name next))
      (chain_joined before path name (next ∷ []) so_far.chain (so_far.part name next taken.there, tt))
    where
      append_two : (names : List Name) (one other : Name) → (names ++ one ∷ []) ++ other ∷ [] ≡ names ++ one ∷ other ∷ []
      append_two [] one other = refl
      append_two (first ∷ names) one other = ap (λ (behind : List Name). first ∷ behind) (append_two names one other)

  last_still : (left new : List Pair) (name next other : Name) → IsTaken left new name next → IsLast left other → IsLast new other
  last_still left new name next other taken last second =
      false_from_ne_true (is_before new other second) (λ there. false≢true (sym (last second) ∙ taken.part other second there))

  done_on : (left new : List Pair) (path : List Name) (name next : Name) → IsTaken left new name next → (other : Name) → IsDone left path other
      → IsDone new (path ++ next ∷ []) other
  done_on left new path name next taken other (inl there) = inl (Contains-append_left path (next ∷ []) other there)
  done_on left new path name next taken other (inr last) = inr (last_still left new name next other taken last)

  pub searched_on : (left new : List Pair) (path : List Name) (name next : Name) → IsTaken left new name next → next ≢ actor
      → IsSearched before actor left (path ++ name ∷ []) → IsSearched before actor new ((path ++ name ∷ []) ++ next ∷ [])
  searched_on left new path name next taken apart so_far = record {
    begins = from_more actor path name next so_far.begins;
    chain = chain_on left new path name next taken so_far;
    met = done_on left new (path ++ name ∷ []) name next taken actor so_far.met;
    followed =
        λ one other e. elim (so_far.followed one other e) [
          | inl there ↦
              elim (taken.others one other there) [
                | inl stays ↦ inl stays
                | inr is ↦
                    inr
                    (subst (λ (n : Name). (n ≢ actor) × IsDone new ((path ++ name ∷ []) ++ next ∷ []) n) (sym is.1) (apart, inl (Contains-push (path ++ name ∷ []) next)))
              ]
          | inr both ↦ inr (both.0, done_on left new (path ++ name ∷ []) name next taken other both.1)
        ];
    part = λ one other e. so_far.part one other (taken.part one other e);
  }

  -- a path of which the last is before the actor is a ring
  closed : (names : List Name) (name : Name) → IsFrom actor (names ++ name ∷ []) → IsChain before ((names ++ name ∷ []) ++ actor ∷ []) → IsRing before (names ++ name ∷ [])
  closed [] name is chain = subst (λ (n : Name). IsChain before (name ∷ n ∷ [])) (sym is) chain
  closed (first ∷ names) name is chain = subst (λ (n : Name). IsChain before (first ∷ ((names ++ name ∷ []) ++ n ∷ []))) (sym is) chain

  pub ring_found : (left new : List Pair) (path : List Name) (name next : Name) → IsTaken left new name next → next ≡ actor
      → IsSearched before actor left (path ++ name ∷ []) → IsRing before (path ++ name ∷ [])
  ring_found left new path name next taken is so_far =
      closed path name so_far.begins
      (subst (λ (n : Name). IsChain before ((path ++ name ∷ []) ++ n ∷ [])) is (chain_on left new path name next taken so_far))

  -- from where nothing leads on, no chain leads to the actor
  none_leads : (left : List Pair) → IsSearched before actor left [] → (others : List Name) (name : Name) → IsLast left name
      → IsChain before (name ∷ (others ++ actor ∷ [])) → ⊥
  none_leads left searched [] name last chain =
      elim (searched.followed name actor chain.0) [
        | inl there ↦ false≢true (sym (last actor) ∙ there)
        | inr both ↦ both.0 refl
      ]
  none_leads left searched (next ∷ others) name last chain =
      elim (searched.followed name next chain.0) [
        | inl there ↦ false≢true (sym (last next) ∙ there)
        | inr both ↦ none_leads left searched others next (empty both.1) chain.1
      ]
    where
      empty : IsDone left [] next → IsLast left next
      empty (inl there) = absurd (omega (arith, there.1))
      empty (inr last) = last

  pub none_found : (left : List Pair) → IsSearched before actor left [] → HasNoRingThrough before actor
  none_found left searched others ring = none_leads left searched others actor (empty searched.met) ring
    where
      empty : IsDone left [] actor → IsLast left actor
      empty (inl there) = absurd (omega (arith, there.1))
      empty (inr last) = last

-- The loop's lists, by the clauses of what changes them.

names_push : (path : List (Bor Name)) (name : Bor Name) → names_of (path ++ name ∷ []) ≡ names_of path ++ name.now ∷ []
names_push [] name = refl
names_push (first ∷ path) name = ap (λ (names : List Name). first.now ∷ names) (names_push path name)

pub names_more : (old new : List (Bor Name)) (name : Bor Name) → new ≡ old ++ name ∷ [] → names_of new ≡ names_of old ++ name.now ∷ []
names_more old new name is = ap names_of is ∙ names_push old name

module _ (before : List Pair) (actor : Name) where
  pub start_so : (left : List Pair) (path : List Name) → left ≡ before → path ≡ actor ∷ [] → IsSearched before actor left path
  start_so left path lefts is =
      subst (λ (l : List Pair). IsSearched before actor l path) (sym lefts) (subst (λ (p : List Name). IsSearched before actor before p) (sym is) (searched_first before actor))

  -- where the path ended with the name
  pub back_so : (left new : List Pair) (old path : List Name) (name : Name) → old ≡ path ++ name ∷ [] → new ≡ left → IsLast left name → IsSearched before actor left old
      → IsSearched before actor new path
  back_so left new old path name was same last so_far =
      subst (λ (l : List Pair). IsSearched before actor l path) (sym same)
      (searched_back before actor left path name last (subst (λ (p : List Name). IsSearched before actor left p) was so_far))

  pub on_so : (left new : List Pair) (old path pushed more : List Name) (name next : Name) → old ≡ path ++ name ∷ [] → pushed ≡ path ++ name ∷ [] → more ≡ pushed ++ next ∷ []
      → IsTaken left new name next → next ≢ actor → IsSearched before actor left old → IsSearched before actor new more
  on_so left new old path pushed more name next was is longer taken apart so_far =
      subst (λ (p : List Name). IsSearched before actor new p) (sym (longer ∙ ap (λ (p : List Name). p ++ next ∷ []) is))
      (searched_on before actor left new path name next taken apart (subst (λ (p : List Name). IsSearched before actor left p) was so_far))

  pub found_so : (left new : List Pair) (old path pushed : List Name) (name next : Name) → old ≡ path ++ name ∷ [] → pushed ≡ path ++ name ∷ [] → IsTaken left new name next
      → next ≡ actor → IsSearched before actor left old → IsRing before pushed
  found_so left new old path pushed name next was is taken same so_far =
      subst (λ (p : List Name). IsRing before p) (sym is)
      (ring_found before actor left new path name next taken same (subst (λ (p : List Name). IsSearched before actor left p) was so_far))

  pub none_so : (left : List Pair) (path : List Name) → path ≡ [] → IsSearched before actor left path → HasNoRingThrough before actor
  none_so left path empty searched = none_found before actor left (subst (λ (p : List Name). IsSearched before actor left p) empty searched)

-- Over all pairs.

begins_push : (left : List Precedence) (pair : Precedence) (one other : Name) → is_before (pairs_of (left ++ pair ∷ [])) one other ≡ true
    → (is_before (pairs_of left) one other ≡ true) ⊎ (pair.first.now ≡ one)
begins_push [] pair one other e =
    elim (or_cases (is_pair one other (pair_of pair)) false e) [
      | inl here ↦ inr (pair_is one other (pair_of pair) here).0
      | inr there ↦ absurd (false≢true there)
    ]
begins_push (first ∷ left) pair one other e =
    elim (or_cases (is_pair one other (pair_of first)) (is_before (pairs_of (left ++ pair ∷ [])) one other) e) [
      | inl here ↦ inl (or_left (is_pair one other (pair_of first)) (is_before (pairs_of left) one other) here)
      | inr there ↦
          elim (begins_push left pair one other there) [
            | inl stays ↦ inl (or_right (is_pair one other (pair_of first)) (is_before (pairs_of left) one other) stays)
            | inr is ↦ inr is
          ]
    ]

pub none_through : (before : List Precedence) (place : ℕ) (d : Precedence) → place < length before
    → ((one other : Name) → is_before (pairs_of (take place before)) one other ≡ true → HasNoRingThrough (pairs_of before) one)
    → HasNoRingThrough (pairs_of before) (get_or before place d).first.now → (one other : Name) → is_before (pairs_of (take (place + 1) before)) one other ≡ true
    → HasNoRingThrough (pairs_of before) one
none_through before place d within so_far here one other e =
    elim (begins_push (take place before) (get_or before place d) one other (subst (λ (p : List Precedence). is_before (pairs_of p) one other ≡ true) (take_more before place d within) e)) [
      | inl earlier ↦ so_far one other earlier
      | inr same ↦ subst (λ (n : Name). HasNoRingThrough (pairs_of before) n) same here
    ]

pub none_at_all : (before : List Precedence) (place : ℕ) → length before ≤ place
    → ((one other : Name) → is_before (pairs_of (take place before)) one other ≡ true → HasNoRingThrough (pairs_of before) one) → HasNoRing (pairs_of before)
none_at_all before place all none [] ring = ring
none_at_all before place all none (name ∷ others) ring =
    let begins = chain_begins (pairs_of before) others name name ring in
    none name begins.0 (subst (λ (p : List Precedence). is_before (pairs_of p) name begins.0 ≡ true) (sym (take_all place before all)) begins.1) others ring

-- what is told of what was found

pub told_so : {A : Type 0} (before : List Pair) (names : A → List Name) (P : Type 0) (found : Option A) → MatchOption found P (λ ring. IsRing before (names ring))
    → is_some found ≡ true → is_some found ≡ goes_in_ring before
told_so before names P (Some ring) is there = sym (ring_goes before (names ring) is)
told_so before names P None is there = absurd (false≢true there)

pub none_here : {A : Type 0} (P : Type 0) (Q : A → Type 0) (found : Option A) → MatchOption found P Q → is_some found ≡ false → P
none_here P Q None none there = none
none_here P Q (Some ring) is there = absurd (false≢true (sym there))
