-- Checkpoints by position: which are up to a position, where one more goes, and how far apart they are.
use Rattle.std.proofs.Common.{leb, leb-false, leb-true, ◌≡◌, ℕ, zero, suc, ◌+◌, ◌-◌, ◌*◌, ◌%◌, ◌/◌, ◌<◌, ◌≤◌, Bool, true, false, List, [], ◌∷◌, ◌++◌, length, Option, Some, None, take, drop, arith, refl, sym, ap, ◌∙◌, subst, inl, inr}
use Rattle.std.proofs.lemmas.Bool.{cases_lt}
use Rattle.std.proofs.lemmas.Bool.Decides.{nat_tests}
use Rattle.std.proofs.lemmas.List.{append-nil, get_or-map, get_or_default, length-map, map-append, places, take-append-drop}
use Rattle.std.proofs.lemmas.List.Elements.{All-append, All-cons, All-contains, All-drop, All-head, All-map, All-nil, All-tail, All-take, All-weaker, filter-append}
use Rattle.std.proofs.lemmas.List.Folds.{list_any_at, list_any_none}
use Rattle.std.proofs.lemmas.List.Kept.{AllPairs-cons}
use Rattle.std.proofs.lemmas.Nat.{div-add-mod', mul-le}
use Rattle.std.proofs.Math.Nat.{lt_of_mul-lt-mul_right, mul_assoc, mul_comm, pow-succ'}
use Rattle.std.specs.List.{All, AllPairs, AllWithin, Contains, filter, last_or}
use Rattle.std.specs.List.Sorted.{IsNonDecreasingBy}
use Rattle.std.specs.Prelude.{cond, if◌then◌else◌, ◌^◌, nat_le, nat_lt, slice_index_or, ◌==◌, ◌||◌}
use Rattle.cmwq_types.specs.declared.limits.TheConstants.{MAX_HISTORY}
use Rattle.cmwq_debug.specs.declared.checkpoints.TheConstants.{MAX_CHECKPOINTS}
use Rattle.cmwq_debug.specs.Checkpoints.{AreRising, Held, Spread, has_room, is_due, is_held, nearest, positions_of, spread_of, thinned, thinned_up_to}
use Rattle.cmwq_debug.specs.declared.checkpoints.Checkpoint.{Checkpoint}

or-none : (a b : Bool) → (a || b) ≡ false → (a ≡ false) × (b ≡ false)
or-none true b none = absurd (let told = none in cc)
or-none false b none = (refl, none)

module _ {M : Type 0} where
  kept-first : (test : ℕ → Bool) (c : Checkpoint M) (cs : List (Checkpoint M)) (b : Bool) → test c.at ≡ b
      → positions_of (filter (λ e. test e.at) cs) ≡ filter test (positions_of cs) → positions_of (filter (λ e. test e.at) (c ∷ cs)) ≡ filter test (positions_of (c ∷ cs))
  kept-first test c cs true is rest = rw is (ap (λ (ps : List ℕ). c.at ∷ ps) rest)
  kept-first test c cs false is rest = rw is (rest)

  -- the positions of those that pass a test are the positions that pass it
  pub positions-filter : (test : ℕ → Bool) (cs : List (Checkpoint M)) → positions_of (filter (λ c. test c.at) cs) ≡ filter test (positions_of cs)
  positions-filter test [] = refl
  positions-filter test (c ∷ cs) = kept-first test c cs (test c.at) refl (positions-filter test cs)

  pub filter-all : (test : ℕ → Bool) (cs : List (Checkpoint M)) → All (λ c. test c.at ≡ true) cs → filter test (positions_of cs) ≡ positions_of cs
  filter-all test [] all = refl
  filter-all test (c ∷ cs) all =
      let first : test c.at ≡ true = All-head (λ e. test e.at ≡ true) c cs all in
      let rest : filter test (positions_of cs) ≡ positions_of cs = filter-all test cs (All-tail (λ e. test e.at ≡ true) c cs all) in
      ap (λ (b : Bool). cond b (c.at ∷ filter test (positions_of cs)) (filter test (positions_of cs))) first ∙ ap (λ (ps : List ℕ). c.at ∷ ps) rest

  pub filter-none : (test : ℕ → Bool) (cs : List (Checkpoint M)) → All (λ c. test c.at ≡ false) cs → filter test (positions_of cs) ≡ []
  filter-none test [] all = refl
  filter-none test (c ∷ cs) all =
      let first : test c.at ≡ false = All-head (λ e. test e.at ≡ false) c cs all in
      ap (λ (b : Bool). cond b (c.at ∷ filter test (positions_of cs)) (filter test (positions_of cs))) first
      ∙ filter-none test cs (All-tail (λ e. test e.at ≡ false) c cs all)

  parted : (test : ℕ → Bool) (n : ℕ) (cs : List (Checkpoint M)) → filter test (positions_of cs) ≡ filter test (positions_of (take n cs)) ++ filter test (positions_of (drop n cs))
  parted test n cs =
      ap (λ (es : List (Checkpoint M)). filter test (positions_of es)) (sym (take-append-drop n cs))
      ∙ ap (filter test) (map-append (λ c. c.at) (take n cs) (drop n cs)) ∙ filter-append test (positions_of (take n cs)) (positions_of (drop n cs))

  -- The checkpoints up to a position are the first n.
  module _ (k n : ℕ) (cs : List (Checkpoint M)) (up_to : All (λ c. c.at ≤ k) (take n cs)) (above : All (λ c. k < c.at) (drop n cs)) where
    pub filter-up_to : filter (λ p. nat_le p k) (positions_of cs) ≡ positions_of (take n cs)
    filter-up_to =
        let first = filter-all (λ p. nat_le p k) (take n cs) (λ i d less. grind (arith, nat_tests, up_to i d less)) in
        let last = filter-none (λ p. nat_le p k) (drop n cs) (λ i d less. grind (arith, nat_tests, above i d less)) in
        parted (λ p. nat_le p k) n cs ∙ grind (arith, first, last, append-nil)

    pub filter-above : filter (λ p. nat_lt k p) (positions_of cs) ≡ positions_of (drop n cs)
    filter-above =
        let first = filter-none (λ p. nat_lt k p) (take n cs) (λ i d less. grind (arith, nat_tests, up_to i d less)) in
        let last = filter-all (λ p. nat_lt k p) (drop n cs) (λ i d less. grind (arith, nat_tests, above i d less)) in
        parted (λ p. nat_lt k p) n cs ∙ grind (arith, first, last)

    pub nearest-is : nearest (positions_of cs) k ≡ last_or None (positions_of (take n cs))
    nearest-is = ap (last_or None) filter-up_to

  pub last-taken : (o : Option ℕ) (m : ℕ) (cs : List (Checkpoint M)) (d : Checkpoint M) → m < length cs → last_or o (positions_of (take (suc m) cs)) ≡ Some (slice_index_or cs m d).at
  last-taken o m [] d less = absurd (omega arith)
  last-taken o zero (c ∷ cs) d less = refl
  last-taken o (suc m) (c ∷ cs) d less = last-taken (Some c.at) m cs d (omega arith)

  -- the nearest checkpoint, where the first n are those up to the position
  pub none-near : (k n : ℕ) (cs : List (Checkpoint M)) → All (λ c. c.at ≤ k) (take n cs) → All (λ c. k < c.at) (drop n cs) → n ≡ 0 → nearest (positions_of cs) k ≡ None
  none-near k n cs up_to above none = nearest-is k n cs up_to above ∙ ap (λ (i : ℕ). last_or None (positions_of (take i cs))) none

  pub last-near : (k n m : ℕ) (cs : List (Checkpoint M)) (d : Checkpoint M) → All (λ c. c.at ≤ k) (take n cs) → All (λ c. k < c.at) (drop n cs) → n ≡ suc m → n ≤ length cs
      → nearest (positions_of cs) k ≡ Some (slice_index_or cs m d).at
  last-near k n m cs d up_to above more within =
      nearest-is k n cs up_to above ∙ ap (λ (i : ℕ). last_or None (positions_of (take i cs))) more ∙ last-taken None m cs d (omega (arith, more, within))

  pub last-below : (k n m : ℕ) (cs : List (Checkpoint M)) (d : Checkpoint M) → All (λ c. c.at ≤ k) (take n cs) → n ≡ suc m → n ≤ length cs → (slice_index_or cs m d).at ≤ k
  last-below k n m cs d up_to more within =
      let inside : m < length (take n cs) = grind (arith, places, more, within) in
      let there : slice_index_or (take n cs) m d ≡ slice_index_or cs m d = grind (arith, places, more) in
      rw (← there) (up_to m d inside)

  -- where none is at the position, each is at another
  pub absent : (k : ℕ) (cs : List (Checkpoint M)) → is_held (positions_of cs) k ≡ false → All (λ c. (c.at == k) ≡ false) cs
  absent k [] none = All-nil (λ c. (c.at == k) ≡ false)
  absent k (c ∷ cs) none =
      let both = or-none (c.at == k) (is_held (positions_of cs) k) none in
      All-cons (λ e. (e.at == k) ≡ false) c cs both.0 (absent k cs both.1)

  -- the converse
  pub not-held : (k : ℕ) (cs : List (Checkpoint M)) → All (λ c. (c.at == k) ≡ false) cs → is_held (positions_of cs) k ≡ false
  not-held k cs none = list_any_none (λ p. p == k) (positions_of cs) (All-map (λ p. (p == k) ≡ false) (λ c. c.at) cs none)

  pub held-at : (k i : ℕ) (cs : List (Checkpoint M)) (d : Checkpoint M) → i < length cs → (slice_index_or cs i d).at ≡ k → is_held (positions_of cs) k ≡ true
  held-at k i cs d less is =
      list_any_at (λ p. p == k) (positions_of cs) i d.at (grind (arith, less, length-map)) (rw (get_or-map (λ c. c.at) cs i d d.at less) (grind (arith, nat_tests, is)))

  -- One is at the position, where the first n are those up to it, just where the last of these is.
  held-last : (k n m : ℕ) (e : Checkpoint M) (cs : List (Checkpoint M)) → AreRising cs → All (λ c. c.at ≤ k) (take n cs) → All (λ c. k < c.at) (drop n cs) → n ≤ length cs → n ≡ suc m
      → ((slice_index_or cs m e).at == k) ≡ false → is_held (positions_of cs) k ≡ false
  held-last k n m e cs rising up_to above within more other =
      let there_is : m < length cs = omega (arith, more, within) in
      not-held k cs (λ i d less. elim (cases_lt i n) [
        | inl under ↦
            let last : (slice_index_or cs m d).at ≤ k = last-below k n m cs d up_to more within in
            elim (cases_lt i m) [
              | inl before ↦
                  let up : (slice_index_or cs i d).at < (slice_index_or cs m d).at = rising i m d before there_is in
                  grind (arith, nat_tests, up, last)
              | inr at ↦ let same : i ≡ m = omega (arith, at, under, more) in rw (same, get_or_default cs m d e there_is) other
            ]
        | inr over ↦
            let there : slice_index_or (drop n cs) (i - n) d ≡ slice_index_or cs i d = grind (arith, places, over) in
            let inside : i - n < length (drop n cs) = grind (arith, places, over, less) in
            let far : k < (slice_index_or cs i d).at = rw (← there) (above (i - n) d inside) in
            grind (arith, nat_tests, far)
      ])

  pub held-where-last : (k n m : ℕ) (e : Checkpoint M) (cs : List (Checkpoint M)) → AreRising cs → All (λ c. c.at ≤ k) (take n cs) → All (λ c. k < c.at) (drop n cs) → n ≤ length cs → n ≡ suc m
      → ((slice_index_or cs m e).at == k) ≡ is_held (positions_of cs) k
  held-where-last k n m e cs rising up_to above within more =
      let cases : (b : Bool) → ((slice_index_or cs m e).at == k) ≡ b → ((slice_index_or cs m e).at == k) ≡ is_held (positions_of cs) k =
      elim [
        | true ↦ λ is. is ∙ sym (held-at k m cs e (omega (arith, more, within)) (grind (arith, nat_tests, is)))
        | false ↦ λ is. is ∙ sym (held-last k n m e cs rising up_to above within more is)
      ] in
      cases ((slice_index_or cs m e).at == k) refl

  pub held-nowhere : (k n : ℕ) (cs : List (Checkpoint M)) → All (λ c. k < c.at) (drop n cs) → n ≡ 0 → is_held (positions_of cs) k ≡ false
  held-nowhere k n cs above none =
      let all : All (λ c. k < c.at) cs = subst (λ (i : ℕ). All (λ c. k < c.at) (drop i cs)) none above in
      not-held k cs (λ i d less. grind (arith, nat_tests, all i d less))

  -- what isn't among all isn't among some of them
  pub still-missing : (k : ℕ) (cs some : List (Checkpoint M)) → All (Contains cs) some → is_held (positions_of cs) k ≡ false → is_held (positions_of some) k ≡ false
  still-missing k cs some kept missing =
      not-held k some (All-weaker (Contains cs) (λ c. (c.at == k) ≡ false) (λ c there. All-contains (λ e. (e.at == k) ≡ false) cs c (absent k cs missing) there) some kept)

  pub never-falls : (cs : List (Checkpoint M)) → AreRising cs → IsNonDecreasingBy (λ c. c.at) cs
  never-falls cs rising i j d up less = elim (cases_lt i j) [
    | inl under ↦ omega (arith, rising i j d under less)
    | inr over ↦ let same : i ≡ j = omega arith in rw same omega arith
  ]

  -- the two parts of a list, from what holds of its places
  pub up_to-part : (k n : ℕ) (cs : List (Checkpoint M)) → n ≤ length cs → AllWithin (λ c. leb c.at k ≡ true) cs 0 n → All (λ c. c.at ≤ k) (take n cs)
  up_to-part k n cs within holds i d less =
      let inside : i < n = grind (arith, places, less) in
      let there : slice_index_or (take n cs) i d ≡ slice_index_or cs i d = grind (arith, places, inside) in
      rw there (leb-true _ _ (holds i d (omega arith) inside))

  pub above-part : (k n : ℕ) (cs : List (Checkpoint M)) → n ≤ length cs → AllWithin (λ c. leb c.at k ≡ false) cs n (length cs) → All (λ c. k < c.at) (drop n cs)
  above-part k n cs within holds i d less =
      let inside : n + i < length cs = grind (arith, places, less, within) in
      let there : slice_index_or (drop n cs) i d ≡ slice_index_or cs (n + i) d = grind (arith, places, inside) in
      rw there (omega (arith, leb-false _ _ (holds (n + i) d (omega arith) inside)))

  -- where none is at the position, those up to it are below it
  pub strictly-below : (k n : ℕ) (cs : List (Checkpoint M)) → All (λ c. c.at ≤ k) (take n cs) → is_held (positions_of cs) k ≡ false → All (λ c. c.at < k) (take n cs)
  strictly-below k n cs up_to missing i d less =
      let inside : i < length cs = grind (arith, places, less) in
      let there : slice_index_or (take n cs) i d ≡ slice_index_or cs i d = grind (arith, places, less) in
      let other : ((slice_index_or cs i d).at == k) ≡ false = absent k cs missing i d inside in
      let below : (slice_index_or cs i d).at ≤ k = rw (← there) (up_to i d less) in
      rw there (grind (arith, nat_tests, other, below))

  -- one more, between those up to a position and those above it
  pub insert-rising : (R : Checkpoint M → Checkpoint M → Type 0) (n : ℕ) (cs : List (Checkpoint M)) (e : Checkpoint M)
      → AllPairs R cs → All (λ c. R c e) (take n cs) → All (R e) (drop n cs) → AllPairs R (take n cs ++ e ∷ drop n cs)
  insert-rising R zero cs e pairs before behind = AllPairs-cons R e cs behind pairs
  insert-rising R (suc n) [] e pairs before behind = AllPairs-cons R e [] (All-nil (R e)) pairs
  insert-rising R (suc n) (c ∷ cs) e pairs before behind =
      let rest : AllPairs R cs = λ i j d up less. pairs (suc i) (suc j) d (omega arith) (omega arith) in
      let first : All (R c) cs = λ i d less. pairs zero (suc i) d (omega arith) (omega arith) in
      AllPairs-cons R c (take n cs ++ e ∷ drop n cs)
      (All-append (R c) (take n cs) (e ∷ drop n cs) (All-take (R c) n cs first) (All-cons (R c) e (drop n cs) (All-head (λ x. R x e) c (take n cs) before) (All-drop (R c) n cs first)))
      (insert-rising R n cs e rest (All-tail (λ x. R x e) c (take n cs) before) behind)

-- One more checkpoint, behind those up to its position.
module _ {M : Type 0} (n : ℕ) (cs : List (Checkpoint M)) (e : Checkpoint M) where
  pub inserted-all : (P : Checkpoint M → Type 0) → All P cs → P e → All P (take n cs ++ e ∷ drop n cs)
  inserted-all P all one = All-append P (take n cs) (e ∷ drop n cs) (All-take P n cs all) (All-cons P e (drop n cs) one (All-drop P n cs all))

  pub inserted-few : (most : ℕ) → length cs < most → length (take n cs ++ e ∷ drop n cs) ≤ most
  inserted-few most few = grind (arith, places, few)

  module _ (k : ℕ) (is : e.at ≡ k) (up_to : All (λ c. c.at ≤ k) (take n cs)) (above : All (λ c. k < c.at) (drop n cs)) where
    pub inserted-rising : AreRising cs → is_held (positions_of cs) k ≡ false → AreRising (take n cs ++ e ∷ drop n cs)
    inserted-rising rising missing =
        insert-rising (λ c later. c.at < later.at) n cs e rising
        (λ i d less. omega (arith, is, strictly-below k n cs up_to missing i d less))
        (λ i d less. omega (arith, is, above i d less))

    pub inserted-positions : positions_of (take n cs ++ e ∷ drop n cs) ≡ filter (λ p. nat_le p k) (positions_of cs) ++ k ∷ filter (λ p. nat_lt k p) (positions_of cs)
    inserted-positions =
        map-append (λ c. c.at) (take n cs) (e ∷ drop n cs) ∙ ap (λ (ps : List ℕ). ps ++ e.at ∷ positions_of (drop n cs)) (sym (filter-up_to k n cs up_to above))
        ∙ ap (λ (p : ℕ). filter (λ q. nat_le q k) (positions_of cs) ++ p ∷ positions_of (drop n cs)) is
        ∙ ap (λ (ps : List ℕ). filter (λ q. nat_le q k) (positions_of cs) ++ k ∷ ps) (sym (filter-above k n cs up_to above))

-- the next multiple behind a multiple
next-multiple : (d x y : ℕ) → 0 < d → x % d ≡ 0 → y * d < x → (y + 1) * d ≤ x
next-multiple d x y pos due less =
    let whole : x / d * d ≡ x = omega (arith, div-add-mod' x d, due) in
    let under : y < x / d = lt_of_mul-lt-mul_right d (omega (arith, whole, less)) in
    omega (arith, whole, mul-le (y + 1) d (x / d) d (omega arith) (omega arith))

module _ {M : Type 0} (d : ℕ) (cs : List (Checkpoint M)) (e : Checkpoint M) (pos : 0 < d) (rising : AreRising cs) (due : All (λ c. is_due d c.at ≡ true) cs) (some : All (λ c. 0 < c.at) cs) where
  -- the checkpoint behind the first i is at the (i + 1)th multiple at least
  pub far : (i : ℕ) → i < length cs → (i + 1) * d ≤ (slice_index_or cs i e).at
  far zero less = next-multiple d (slice_index_or cs 0 e).at 0 pos (grind (arith, nat_tests, due 0 e less)) (omega (arith, some 0 e less))
  far (suc i) less =
      let before = far i (omega arith) in
      let up = rising i (suc i) e (omega arith) less in
      next-multiple d (slice_index_or cs (suc i) e).at (suc i) pos (grind (arith, nat_tests, due (suc i) e less)) (omega (arith, before, up))

-- where there are as many as may be, twice the spacing isn't above the greatest position
pub wide : {M : Type 0} (d : ℕ) (cs : List (Checkpoint M)) → 0 < d → AreRising cs → All (λ c. is_due d c.at ≡ true) cs → All (λ c. 0 < c.at) cs → All (λ c. c.at ≤ MAX_HISTORY) cs
    → length cs ≡ MAX_CHECKPOINTS → 2 * d ≤ MAX_HISTORY
wide d [] pos rising due some short full = absurd (omega (arith, full))
wide d (c ∷ cs) pos rising due some short full =
    let last : 255 < length (c ∷ cs) = omega (arith, full) in
    omega (arith, far d (c ∷ cs) c pos rising due some 255 last, short 255 c last)

-- Thinning until there is room.
pub room-first : (n : ℕ) (s : Spread) → has_room s ≡ true → thinned_up_to n s ≡ s
unfolding thinned_up_to
room-first zero s room = refl
room-first (suc n) s room = rw room refl

pub one-thinner : (n : ℕ) (s t : Spread) → MAX_HISTORY < s.spacing * 2 ^ n → 2 * s.spacing ≤ MAX_HISTORY → has_room s ≡ false → t ≡ thinned s
    → (m : ℕ) × (MAX_HISTORY < t.spacing * 2 ^ m) × (thinned_up_to m t ≡ thinned_up_to n s)
unfolding thinned_up_to
one-thinner zero s t enough fits full is = absurd (omega (arith, enough, fits))
one-thinner (suc m) s t enough fits full is =
    let spacing : t.spacing ≡ 2 * s.spacing = ap (λ (u : Spread). u.spacing) is in
    let twice : t.spacing * 2 ^ m ≡ s.spacing * 2 ^ suc m = rw (spacing, pow-succ' 2 m) (grind (arith, mul_assoc, mul_comm)) in
    (m, rw twice enough, ap (thinned_up_to m) is ∙ ap (λ (b : Bool). if b then s else thinned_up_to m (thinned s)) (sym full))

module _ {M : Type 0} (h : Held M) where
  pub is-full : length h.checkpoints ≡ MAX_CHECKPOINTS → has_room (spread_of h) ≡ false
  is-full full = let same : length (positions_of h.checkpoints) ≡ MAX_CHECKPOINTS = length-map h.checkpoints (λ c. c.at) ∙ full in grind (arith, nat_tests, same)

  pub has-more-room : length h.checkpoints < MAX_CHECKPOINTS → has_room (spread_of h) ≡ true
  has-more-room few = let same : length (positions_of h.checkpoints) ≡ length h.checkpoints = length-map h.checkpoints (λ c. c.at) in grind (arith, nat_tests, same, few)
