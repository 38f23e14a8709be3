-- Laws on the tree of ranks: what a change of one node does, up to the root.
use Rattle.std.proofs.Common.{◌≡◌, ◌≢◌, ◌⊎◌, ℕ, suc, zero, ◌+◌, ◌-◌, ◌*◌, ◌/◌, ◌<◌, ◌≤◌, List, length, min, set, arith, refl, sym, ap, subst, ◌∙◌, inl, inr}
use Rattle.std.proofs.lemmas.Bool.{cases_eq, cases_lt}
use Rattle.std.proofs.lemmas.List.{get_or-set_same, get_or-set_other, length-set}
use Rattle.cmwq_timers.specs.Tree.{IsTree, IsTreeBut, HasGiven, HasLesser, IsLeaf, node_beside, rank_at}

-- a node and the one beside it are the two below the one above
pub pair : (ranks : List ℕ) (node : ℕ) → min (rank_at ranks (2 * (node / 2))) (rank_at ranks (2 * (node / 2) + 1)) ≡ min (rank_at ranks node) (rank_at ranks (node_beside node))
pair ranks node = elim (cases_eq node (2 * (node / 2))) [
  | inl even ↦
      let right : 2 * (node / 2) + 1 ≡ node_beside node = omega (arith, even) in
      ap (λ (k : ℕ). min (rank_at ranks k) (rank_at ranks (2 * (node / 2) + 1))) (sym even) ∙ ap (λ (k : ℕ). min (rank_at ranks node) (rank_at ranks k)) right
  | inr odd ↦
      let here : 2 * (node / 2) + 1 ≡ node = omega (arith, odd) in
      let left : 2 * (node / 2) ≡ node_beside node = omega (arith, here) in
      let swapped : min (rank_at ranks (node_beside node)) (rank_at ranks node) ≡ min (rank_at ranks node) (rank_at ranks (node_beside node)) = omega arith in
      ap (λ (k : ℕ). min (rank_at ranks k) (rank_at ranks (2 * (node / 2) + 1))) left ∙ ap (λ (k : ℕ). min (rank_at ranks (node_beside node)) (rank_at ranks k)) here ∙ swapped
]

-- One node has another rank.
module _ (ranks : List ℕ) (node rank : ℕ) (inside : node < length ranks) where
  abbrev new : List ℕ
  new = set ranks node rank

  pub other : (i : ℕ) → i ≢ node → rank_at new i ≡ rank_at ranks i
  other i apart = get_or-set_other ranks node i rank 0 apart

  pub here : rank_at new node ≡ rank
  here = get_or-set_same ranks node rank 0 inside

  -- a node that is neither that nor the one above it has the lesser rank as before
  pub unmoved : (i : ℕ) → i ≢ node → i ≢ node / 2 → HasLesser ranks i → HasLesser new i
  unmoved i apart below lesser =
      let left = other (2 * i) (λ same. absurd (below (omega (arith, same)))) in
      let right = other (2 * i + 1) (λ same. absurd (below (omega (arith, same)))) in
      rw (other i apart, left, right) lesser

  -- so has that one, where its rank is that of the two below it
  pub lesser-here : 0 < node → rank ≡ min (rank_at ranks (2 * node)) (rank_at ranks (2 * node + 1)) → HasLesser new node
  lesser-here above is =
      let left = other (2 * node) (λ same. absurd (omega (arith, same, above))) in
      let right = other (2 * node + 1) (λ same. absurd (omega (arith, same, above))) in
      rw (here, left, right) is

  -- above it and the one beside it
  pub pair-new : 0 < node → min (rank_at new (2 * (node / 2))) (rank_at new (2 * (node / 2) + 1)) ≡ min rank (rank_at ranks (node_beside node))
  pair-new above =
      pair new node
      ∙ ap (λ (r : ℕ). min r (rank_at new (node_beside node))) here
      ∙ ap (min rank) (other (node_beside node) (λ same. absurd (omega (arith, same))))

  pub above-new : 0 < node → rank_at new (node / 2) ≡ rank_at ranks (node / 2)
  above-new above = other (node / 2) (λ same. absurd (omega (arith, same, above)))

-- A change on its way up: all nodes but this one have the lesser ranks.
pub record IsOnTheWay (was ranks : List ℕ) (leaf rank at : ℕ) : Type 0 where
  pub even : length ranks ≡ 2 * (length ranks / 2)
  pub below : length ranks ≤ 2 * leaf
  pub inside : 2 * at < length ranks
  pub given : HasGiven was ranks leaf rank
  pub but : IsTreeBut ranks at

pub sets-out : (ranks : List ℕ) (leaf rank : ℕ) → IsTree ranks → IsLeaf ranks leaf → IsOnTheWay ranks (set ranks leaf rank) leaf rank (leaf / 2)
sets-out ranks leaf rank tree is =
    let long = length-set ranks leaf rank in
    let inside = is.inside in
    let above = is.above in
    let even = is.even in
    record {
      even = omega (arith, long, even);
      below = omega (arith, long, above);
      inside = omega (arith, long, inside, even);
      given = record {
        long = long;
        here = here ranks leaf rank inside;
        others = λ l leaf_too apart. other ranks leaf rank inside l apart;
      };
      but = λ i low inner apart. unmoved ranks leaf rank inside i (λ same. absurd (omega (arith, same, inner, above, long))) apart (tree i low (omega (arith, inner, long)));
    }

pub goes-up : (was ranks : List ℕ) (leaf rank at next : ℕ) → IsOnTheWay was ranks leaf rank at → 0 < at → next ≡ min (rank_at ranks (2 * at)) (rank_at ranks (2 * at + 1))
    → IsOnTheWay was (set ranks at next) leaf rank (at / 2)
goes-up was ranks leaf rank at next way low lesser =
    let long = length-set ranks at next in
    let inner = way.inside in
    let inside : at < length ranks = omega (arith, inner) in
    let even = way.even in
    let below = way.below in
    let given = way.given in
    let as_long = given.long in
    record {
      even = omega (arith, long, even);
      below = omega (arith, long, below);
      inside = omega (arith, long, inner);
      given = record {
        long = long ∙ as_long;
        here = other ranks at next inside leaf (λ same. absurd (omega (arith, same, inner, below))) ∙ given.here;
        others = λ l leaf_too apart. other ranks at next inside l (λ same. absurd (omega (arith, same, inner, leaf_too, as_long))) ∙ given.others l leaf_too apart;
      };
      but = λ i above i_inner apart.
          elim (cases_eq i at) [
            | inl same ↦ subst (HasLesser (set ranks at next)) (sym same) (lesser-here ranks at next inside low lesser)
            | inr differs ↦ unmoved ranks at next inside i differs apart (way.but i above (omega (arith, i_inner, long)) differs)
          ];
    }

pub ends : (was ranks : List ℕ) (leaf rank at : ℕ) → IsOnTheWay was ranks leaf rank at → (0 < at → HasLesser ranks at) → IsTree ranks
ends was ranks leaf rank at way here i above inner =
    elim (cases_eq i at) [
      | inl same ↦ subst (HasLesser ranks) (sym same) (here (omega (arith, same, above)))
      | inr differs ↦ way.but i above inner differs
    ]

-- the node above, on the way
above-on : (was ranks : List ℕ) (leaf rank at : ℕ) → IsOnTheWay was ranks leaf rank at → 0 < at → 0 < at / 2 → HasLesser ranks (at / 2)
above-on was ranks leaf rank at way low above =
    let inner = way.inside in
    way.but (at / 2) above (omega (arith, inner)) (λ same. absurd (omega (arith, same, low)))

-- and above a leaf
above-leaf : (ranks : List ℕ) (leaf : ℕ) → IsTree ranks → IsLeaf ranks leaf → 0 < leaf / 2 → HasLesser ranks (leaf / 2)
above-leaf ranks leaf tree is above =
    let inside = is.inside in
    let even = is.even in
    tree (leaf / 2) above (omega (arith, inside, even))

-- A lesser rank: where it counts as well, this node has the lesser one too.
abbrev pub Counts : List ℕ → ℕ → ℕ → Type 0
Counts ranks rank at = 0 < at → min (rank_at ranks at) rank ≡ min (rank_at ranks (2 * at)) (rank_at ranks (2 * at + 1))

counts-above : (ranks : List ℕ) (node rank : ℕ) → node < length ranks → (0 < node / 2 → HasLesser ranks (node / 2)) → rank ≤ rank_at ranks node → Counts (set ranks node rank) rank (node / 2)
counts-above ranks node rank inside lesser less above =
    let low : 0 < node = omega (arith, above) in
    let is : rank_at ranks (node / 2) ≡ min (rank_at ranks node) (rank_at ranks (node_beside node)) = lesser above ∙ pair ranks node in
    let least : min (rank_at ranks (node / 2)) rank ≡ min rank (rank_at ranks (node_beside node)) = omega (arith, is, less) in
    ap (λ (r : ℕ). min r rank) (above-new ranks node rank inside low) ∙ least ∙ sym (pair-new ranks node rank inside low)

pub record IsLowering (was ranks : List ℕ) (leaf rank at : ℕ) : Type 0 where
  pub way : IsOnTheWay was ranks leaf rank at
  pub counts : Counts ranks rank at

pub lowering-sets-out : (ranks : List ℕ) (leaf rank : ℕ) → IsTree ranks → IsLeaf ranks leaf → rank ≤ rank_at ranks leaf → IsLowering ranks (set ranks leaf rank) leaf rank (leaf / 2)
lowering-sets-out ranks leaf rank tree is less = record {
  way = sets-out ranks leaf rank tree is;
  counts = counts-above ranks leaf rank is.inside (above-leaf ranks leaf tree is) less;
}

pub lowering-goes-up : (was ranks : List ℕ) (leaf rank at : ℕ) → IsLowering was ranks leaf rank at → 0 < at → rank < rank_at ranks at → IsLowering was (set ranks at rank) leaf rank (at / 2)
lowering-goes-up was ranks leaf rank at lowering low less =
    let way = lowering.way in
    let inner = way.inside in
    let counts = lowering.counts low in
    record {
      way = goes-up was ranks leaf rank at rank way low (omega (arith, counts, less));
      counts = counts-above ranks at rank (omega (arith, inner)) (above-on was ranks leaf rank at way low) (omega (arith, less));
    }

pub lowering-ends : (was ranks : List ℕ) (leaf rank at : ℕ) → IsLowering was ranks leaf rank at → (0 < at → rank_at ranks at ≤ rank) → IsTree ranks
lowering-ends was ranks leaf rank at lowering least = ends was ranks leaf rank at lowering.way (λ low. let no_more = least low in let counts = lowering.counts low in omega (arith, no_more, counts))

-- A greater rank: this node has the lesser one, or it has the rank that the leaf had, and those below it have none lower.
abbrev pub HadIt : List ℕ → ℕ → ℕ → Type 0
HadIt ranks low at = 0 < at → HasLesser ranks at ⊎ ((rank_at ranks at ≡ low) × (low ≤ min (rank_at ranks (2 * at)) (rank_at ranks (2 * at + 1))))

had-above : (ranks : List ℕ) (node rank low : ℕ) → node < length ranks → (0 < node / 2 → HasLesser ranks (node / 2)) → rank_at ranks node ≡ low → low ≤ rank → HadIt (set ranks node rank) low (node / 2)
had-above ranks node rank low inside lesser was no_less above =
    let high : 0 < node = omega (arith, above) in
    let is : rank_at ranks (node / 2) ≡ min (rank_at ranks node) (rank_at ranks (node_beside node)) = lesser above ∙ pair ranks node in
    let stays = above-new ranks node rank inside high in
    let both = pair-new ranks node rank inside high in
    elim (cases_lt (rank_at ranks (node_beside node)) low) [
      | inl lower ↦
          let least : rank_at ranks (node / 2) ≡ min rank (rank_at ranks (node_beside node)) = omega (arith, is, was, no_less, lower) in
          inl (stays ∙ least ∙ sym both)
      | inr higher ↦
          let had : rank_at ranks (node / 2) ≡ low = omega (arith, is, was, higher) in
          let none_lower : low ≤ min rank (rank_at ranks (node_beside node)) = omega (arith, no_less, higher) in
          inr (stays ∙ had, subst (λ (r : ℕ). low ≤ r) (sym both) none_lower)
    ]

pub record IsRaising (was ranks : List ℕ) (leaf low most at : ℕ) : Type 0 where
  pub way : IsOnTheWay was ranks leaf most at
  pub had : HadIt ranks low at

pub raising-sets-out : (ranks : List ℕ) (leaf most : ℕ) → IsTree ranks → IsLeaf ranks leaf → rank_at ranks leaf ≤ most → IsRaising ranks (set ranks leaf most) leaf (rank_at ranks leaf) most (leaf / 2)
raising-sets-out ranks leaf most tree is no_more = record {
  way = sets-out ranks leaf most tree is;
  had = had-above ranks leaf most (rank_at ranks leaf) is.inside (above-leaf ranks leaf tree is) refl no_more;
}

pub raising-goes-up : (was ranks : List ℕ) (leaf low most at : ℕ) → IsRaising was ranks leaf low most at → 0 < at
    → IsRaising was (set ranks at (min (rank_at ranks (2 * at)) (rank_at ranks (2 * at + 1)))) leaf low most (at / 2)
raising-goes-up was ranks leaf low most at raising high =
    let way = raising.way in
    let inner = way.inside in
    let inside : at < length ranks = omega (arith, inner) in
    let next = min (rank_at ranks (2 * at)) (rank_at ranks (2 * at + 1)) in
    record {
      way = goes-up was ranks leaf most at next way high refl;
      had =
          elim (raising.had high) [
            | inl lesser ↦ λ above.
                inl (
                above-new ranks at next inside high ∙ above-on was ranks leaf most at way high above ∙ pair ranks at
                ∙ ap (λ (r : ℕ). min r (rank_at ranks (node_beside at))) lesser ∙ sym (pair-new ranks at next inside high)
                )
            | inr had ↦ had-above ranks at next low inside (above-on was ranks leaf most at way high) had.0 had.1
          ];
    }

pub raising-ends : (was ranks : List ℕ) (leaf low most at : ℕ) → IsRaising was ranks leaf low most at → (0 < at → rank_at ranks at ≢ low) → IsTree ranks
raising-ends was ranks leaf low most at raising apart = ends was ranks leaf most at raising.way (λ above. elim (raising.had above) [ inl lesser ↦ lesser | inr had ↦ absurd (apart above had.0) ])

-- the rank is the lesser of the two below the node
abbrev pub IsLesser : List ℕ → ℕ → ℕ → Type 0
IsLesser ranks at lesser = 0 < at → lesser ≡ min (rank_at ranks (2 * at)) (rank_at ranks (2 * at + 1))

-- above a node that has another rank it's the lesser of that and of the one beside it
pub lesser-above : (ranks : List ℕ) (node rank : ℕ) → node < length ranks → IsLesser (set ranks node rank) (node / 2) (min rank (rank_at (set ranks node rank) (node_beside node)))
lesser-above ranks node rank inside above =
    sym (pair (set ranks node rank) node ∙ ap (λ (r : ℕ). min r (rank_at (set ranks node rank) (node_beside node))) (here ranks node rank inside))

-- The root.

-- a node has the rank of a leaf
pub record IsOfLeaf (ranks : List ℕ) (node : ℕ) : Type 0 where
  pub leaf : ℕ
  pub inside : leaf < length ranks / 2
  pub is : rank_at ranks node ≡ rank_at ranks (length ranks / 2 + leaf)

module _ (ranks : List ℕ) (even : length ranks ≡ 2 * (length ranks / 2)) (tree : IsTree ranks) where
  below_root : (fuel i : ℕ) → i ≤ fuel → 0 < i → i < length ranks → rank_at ranks 1 ≤ rank_at ranks i
  below_root zero i bound above inside = absurd (omega arith)
  below_root (suc fuel) i bound above inside =
      elim (cases_lt 1 i) [
        | inl lower ↦
            let lesser = tree (i / 2) (omega arith) (omega arith) ∙ pair ranks i in
            let far = below_root fuel (i / 2) (omega arith) (omega arith) (omega arith) in
            omega (arith, lesser, far)
        | inr here ↦
            let same : 1 ≡ i = omega arith in
            subst (λ (k : ℕ). rank_at ranks 1 ≤ rank_at ranks k) same (omega arith)
      ]

  -- no leaf has a lesser rank
  pub root_least : (w : ℕ) → w < length ranks / 2 → rank_at ranks 1 ≤ rank_at ranks (length ranks / 2 + w)
  root_least w inside = below_root (length ranks / 2 + w) (length ranks / 2 + w) (omega arith) (omega (arith, inside)) (omega (arith, inside, even))

  of_leaf : (fuel i : ℕ) → length ranks ≤ fuel + i → 0 < i → i < length ranks → IsOfLeaf ranks i
  of_leaf zero i bound above inside = absurd (omega arith)
  of_leaf (suc fuel) i bound above inside =
      elim (cases_lt i (length ranks / 2)) [
        | inl inner ↦
            let lesser = tree i above (omega (arith, inner, even)) in
            elim (cases_lt (rank_at ranks (2 * i)) (rank_at ranks (2 * i + 1))) [
              | inl left ↦
                  let far = of_leaf fuel (2 * i) (omega arith) (omega arith) (omega (arith, inner, even)) in
                  let same : rank_at ranks i ≡ rank_at ranks (2 * i) = omega (arith, lesser, left) in
                  record { leaf = far.leaf; inside = far.inside; is = same ∙ far.is }
              | inr right ↦
                  let far = of_leaf fuel (2 * i + 1) (omega arith) (omega arith) (omega (arith, inner, even)) in
                  let same : rank_at ranks i ≡ rank_at ranks (2 * i + 1) = omega (arith, lesser, right) in
                  record { leaf = far.leaf; inside = far.inside; is = same ∙ far.is }
            ]
        | inr leaf ↦
            let at : i ≡ length ranks / 2 + (i - length ranks / 2) = omega (arith, leaf) in
            record { leaf = i - length ranks / 2; inside = omega (arith, inside, even, leaf); is = ap (rank_at ranks) at }
      ]

  -- and one has its rank
  pub root_leaf : 0 < length ranks / 2 → IsOfLeaf ranks 1
  root_leaf some = of_leaf (length ranks) 1 (omega arith) (omega arith) (omega (arith, some, even))
