-- Counts in a table: one more in its place, in a row, and in all rows.
use Rattle.std.proofs.Common.{◌≡◌, ◌≢◌, ℕ, zero, suc, ◌+◌, ◌*◌, ◌/◌, ◌%◌, ◌<◌, ◌≤◌, Bool, true, false, cond, ◌&&◌, List, ◌∷◌, ◌++◌, length, map, Option, Some, None, arith, mul-le-mul_right, refl, sym, ap, subst, ◌∙◌, inl, inr, slice_index_or, slice_set}
use Rattle.std.proofs.Math.Nat.{mod-add-div', mod-lt}
use Rattle.std.proofs.lemmas.Bool.{and_parts, cases_Bool, cases_eq, cases_lt, eq-eqb, eqb-true, lt-ltb, ltb-true}
use Rattle.std.proofs.lemmas.Bool.Decides.{nat_tests}
use Rattle.std.proofs.lemmas.List.{ext_get_or, get_or-append-add, get_or-set_other, get_or-set_same, get_or_append_left, length-append}
use Rattle.std.proofs.lemmas.List.FromFn.{get_or-map-range_with_len, length-map-range_with_len}
use Rattle.std.specs.List.{flat_map, range_with_len}
use Rattle.std.specs.Prelude.{nat_lt, ◌==◌}
use Rattle.cmwq_types.specs.Contents.{ScenarioContents}
use Rattle.cmwq_table.specs.State.{State, pending_at, running_at}
use Rattle.cmwq_table.specs.declared.state.Pending.{Pending}
use Rattle.cmwq_table.specs.declared.state.Running.{Running}
use Rattle.cmwq_reasons.specs.declared.reason.Reason.{Reason}
use Rattle.cmwq_reasons.specs.Reasons.{reason_in_place, reason_of_running}
use Rattle.cmwq_picture.specs.Picture.{below, place_sign, run_sign}
use Rattle.cmwq_blame.specs.Blame.{BlameContents, are_below, blame_ticked, column, place_of, table_of, waited, blames, blames_nobody, counts_for, is_wait, no_blame, pending_counts, running_counts, work_counts}
use Rattle.cmwq_blame.specs.Table.{HasCounted, blamed_below, count_at, in_row, is_other, one_at, rows_below}

-- Places.

pub below-row : (n w : ℕ) (o : Option ℕ) → are_below n w o ≡ true → w < n
below-row n w (Some v) e = ltb-true w n (and_parts (nat_lt w n) (nat_lt v n) e).0
below-row n w None e = ltb-true w n e

pub below-column : (n w : ℕ) (o : Option ℕ) → are_below n w o ≡ true → column o < n + 1
below-column n w (Some v) e = (let less : v < n = ltb-true v n (and_parts (nat_lt w n) (nat_lt v n) e).1 in omega arith)
below-column n w None e = omega arith

row-lt : (n a b p q : ℕ) → a < b → p < n → a * n + p < b * n + q
row-lt n a b p q h k =
    let more : suc a * n ≤ b * n = mul-le-mul_right {m = suc a} {n = b} n (omega arith) in
    omega arith

pub place-within : (n w : ℕ) (o : Option ℕ) → are_below n w o ≡ true → place_of n w o < n * (n + 1)
place-within n w o e =
    let less : w * (n + 1) + column o < n * (n + 1) + 0 = row-lt (n + 1) w n (column o) 0 (below-row n w o e) (below-column n w o e) in
    omega arith

same-row : (n a b p q : ℕ) → p < n → q < n → a * n + p ≡ b * n + q → a ≡ b
same-row n a b p q h k same =
    elim (cases_eq a b) [
      | inl row ↦ row
      | inr apart ↦ elim (cases_lt a b) [
        | inl lt ↦ (let less : a * n + p < b * n + q = row-lt n a b p q lt h in absurd (omega arith))
        | inr ge ↦ (let less : b * n + q < a * n + p = row-lt n b a q p (omega arith) k in absurd (omega arith))
      ]
    ]

same-column : (p q : Option ℕ) → column p ≡ column q → p ≡ q
same-column (Some v) (Some u) e = (let same : v ≡ u = omega (arith, e) in ap Some same)
same-column (Some v) None e = absurd (omega (arith, e))
same-column None (Some u) e = absurd (omega (arith, e))
same-column None None e = refl

is_other-same : (p : Option ℕ) → is_other p p ≡ true
is_other-same (Some v) = eq-eqb v v refl
is_other-same None = refl

other-same : (p q : Option ℕ) → is_other p q ≡ true → p ≡ q
other-same (Some v) (Some u) e = ap Some (eqb-true v u e)
other-same (Some v) None e = cc
other-same None (Some u) e = cc
other-same None None e = refl

module _ (n w x : ℕ) (other whom : Option ℕ) (b : are_below n w other ≡ true) (c : are_below n x whom ≡ true) where
  -- one place is one row and one column
  same-place : place_of n x whom ≡ place_of n w other → ((x == w) && is_other whom other) ≡ true
  same-place e =
      let row : x ≡ w = same-row (n + 1) x w (column whom) (column other) (below-column n x whom c) (below-column n w other b) e in
      let rows : x * (n + 1) ≡ w * (n + 1) = ap (λ (k : ℕ). k * (n + 1)) row in
      let at : whom ≡ other = same-column whom other (omega (arith, e, rows)) in
      ap (λ (t : Bool). t && is_other whom other) (eq-eqb x w row)
      ∙ ap (λ (o : Option ℕ). is_other o other) at ∙ is_other-same other

  there-place : ((x == w) && is_other whom other) ≡ true → place_of n x whom ≡ place_of n w other
  there-place e =
      let parts = and_parts (x == w) (is_other whom other) e in
      ap (λ (k : ℕ). place_of n k whom) (eqb-true x w parts.0) ∙ ap (place_of n w) (other-same whom other parts.1)

pub counted-one : (n w : ℕ) (other : Option ℕ) (counts : List ℕ) → are_below n w other ≡ true → length counts ≡ n * (n + 1)
    → HasCounted n counts (slice_set counts (place_of n w other) (slice_index_or counts (place_of n w other) 0 + 1)) (one_at w other)
counted-one n w other counts b room x whom c =
    let place = place_of n w other in
    let at = place_of n x whom in
    let more = slice_index_or counts place 0 + 1 in
    let test = (x == w) && is_other whom other in
    let within : place < length counts = (let less = place-within n w other b in omega (arith, room, less)) in
    elim (cases_Bool test) [
      | inl is ↦
          let same : at ≡ place = there-place n w x other whom b c is in
          ap (λ (k : ℕ). slice_index_or (slice_set counts place more) k 0) same
          ∙ get_or-set_same counts place more 0 within
          ∙ ap (λ (k : ℕ). slice_index_or counts k 0 + 1) (sym same)
          ∙ ap (λ (t : Bool). slice_index_or counts at 0 + cond t 1 0) (sym is)
      | inr isnt ↦
          let apart : at ≢ place = λ e. (let is = same-place n w x other whom b c e in cc (is, isnt)) in
          let none : slice_index_or counts at 0 ≡ slice_index_or counts at 0 + 0 = omega arith in
          get_or-set_other counts place at more 0 apart ∙ none ∙ ap (λ (t : Bool). slice_index_or counts at 0 + cond t 1 0) (sym isnt)
    ]

-- In a row.

module _ (S : ScenarioContents) (s : State) (w : ℕ) (a : Reason) where
  -- those that aren't among the works below are still to come
  pub blamed-later : (v : ℕ) → in_row w (blamed_below S s w a v) w (Some v) ≡ 0
  blamed-later v =
      let not_yet : nat_lt v v ≡ false = grind (arith, nat_tests) in
      ap (λ (r : Bool). cond r (blamed_below S s w a v (Some v)) 0) (eq-eqb w w refl) ∙ ap (λ (t : Bool). cond (t && blames S s w a v) 1 0) not_yet

  pub blamed-nobody : (n : ℕ) → in_row w (blamed_below S s w a n) w None ≡ 0
  blamed-nobody n = ap (λ (r : Bool). cond r (blamed_below S s w a n None) 0) (eq-eqb w w refl)

-- A half counts at most one.

bit-few : (b : Bool) → cond b 1 0 ≤ 1
bit-few true = omega arith
bit-few false = omega arith

counts-few : (S : ScenarioContents) (s : State) (w : ℕ) (a : Reason) (o : Option ℕ) → counts_for S s w a o ≤ 1
counts-few S s w a (Some v) = bit-few (blames S s w a v)
counts-few S s w a None = bit-few (blames_nobody S s w a)

cond-few : (b : Bool) (k : ℕ) → k ≤ 1 → cond b k 0 ≤ 1
cond-few true k few = few
cond-few false k few = omega arith

pub pending-few : (S : ScenarioContents) (s : State) (w : ℕ) (p : Option Pending) (o : Option ℕ) → pending_counts S s w p o ≤ 1
pending-few S s w (Some p) o =
    cond-few (is_wait (place_sign p.place)) (counts_for S s w (reason_in_place S s w p.place) o) (counts-few S s w (reason_in_place S s w p.place) o)
pending-few S s w None o = omega arith

pub running-few : (S : ScenarioContents) (s : State) (w : ℕ) (r : Option Running) (o : Option ℕ) → running_counts S s w r o ≤ 1
running-few S s w (Some r) o =
    cond-few (is_wait (run_sign S s w r)) (counts_for S s w (reason_of_running S s w r) o) (counts-few S s w (reason_of_running S s w r) o)
running-few S s w None o = omega arith

-- Rows one after another.

-- a row more, which both halves of its work make
pub rows-more : (S : ScenarioContents) (s : State) (w x : ℕ) (whom : Option ℕ)
    → rows_below w (work_counts S s) x whom + (in_row w (pending_counts S s w (pending_at s w)) x whom + in_row w (running_counts S s w (running_at s w)) x whom)
    ≡ rows_below (w + 1) (work_counts S s) x whom
rows-more S s w x whom = elim (cases_eq x w) [
  | inl at ↦
      let not_yet : nat_lt x w ≡ false = grind (arith, nat_tests) in
      let below : nat_lt x (w + 1) ≡ true = grind (arith, nat_tests) in
      let here : (x == w) ≡ true = grind (arith, nat_tests) in
      ap (λ (t : Bool). cond t (work_counts S s x whom) 0 + (cond (x == w) pending 0 + cond (x == w) running 0)) not_yet
      ∙ ap (λ (t : Bool). 0 + (cond t pending 0 + cond t running 0)) here
      ∙ (omega arith)
      ∙ ap (λ (v : ℕ). work_counts S s v whom) (sym at)
      ∙ ap (λ (t : Bool). cond t (work_counts S s x whom) 0) (sym below)
  | inr apart ↦
      let below : nat_lt x (w + 1) ≡ nat_lt x w = grind (arith, nat_tests) in
      let elsewhere : (x == w) ≡ false = grind (arith, nat_tests) in
      ap (λ (t : Bool). cond (nat_lt x w) (work_counts S s x whom) 0 + (cond t pending 0 + cond t running 0)) elsewhere
      ∙ nothing (cond (nat_lt x w) (work_counts S s x whom) 0)
      ∙ ap (λ (t : Bool). cond t (work_counts S s x whom) 0) (sym below)
] where
  pending : ℕ
  pending = pending_counts S s w (pending_at s w) whom

  running : ℕ
  running = running_counts S s w (running_at s w) whom

  nothing : (k : ℕ) → k + (0 + 0) ≡ k
  nothing k = omega arith

-- A table has each count in its place.

module _ (f : ℕ → Option ℕ → ℕ) (n : ℕ) where
  abbrev row : ℕ → List ℕ
  row w = f w None ∷ map (λ v. f w (Some v)) (below n)

  row-length : (w : ℕ) → length (row w) ≡ n + 1
  row-length w = (let rest = length-map-range_with_len (λ v. f w (Some v)) 0 n in omega (arith, rest))

  rows-length : (a m : ℕ) → length (flat_map row (range_with_len a m)) ≡ m * (n + 1)
  rows-length a zero = omega arith
  rows-length a (suc m) =
      let both = length-append (row a) (flat_map row (range_with_len (a + 1) m)) in
      let first = row-length a in
      let rest = rows-length (a + 1) m in
      omega (arith, both, first, rest)

  cell : (w : ℕ) (o : Option ℕ) → are_below n w o ≡ true → slice_index_or (row w) (column o) 0 ≡ f w o
  cell w None there = refl
  cell w (Some v) there =
      let less : v < n = ltb-true v n (and_parts (nat_lt w n) (nat_lt v n) there).1 in
      let at : v + 1 ≡ suc v = omega arith in
      ap (λ (k : ℕ). slice_index_or (row w) k 0) at ∙ get_or-map-range_with_len (λ v. f w (Some v)) 0 n v v 0 less (omega arith)

  row-at : (a m i j : ℕ) → i < m → j < n + 1 → slice_index_or (flat_map row (range_with_len a m)) (i * (n + 1) + j) 0 ≡ slice_index_or (row (a + i)) j 0
  row-at a zero i j less within = absurd (omega (arith, less))
  row-at a (suc m) zero j less within =
      let width = row-length a in
      let start : a + 0 ≡ a = omega arith in
      let place : zero * (n + 1) + j ≡ j = omega arith in
      ap (λ (k : ℕ). slice_index_or (row a ++ flat_map row (range_with_len (a + 1) m)) k 0) place
      ∙ get_or_append_left (row a) (flat_map row (range_with_len (a + 1) m)) 0 j (omega (arith, width, within))
      ∙ ap (λ (k : ℕ). slice_index_or (row k) j 0) (sym start)
  row-at a (suc m) (suc i) j less within =
      let width = row-length a in
      let place : suc i * (n + 1) + j ≡ length (row a) + (i * (n + 1) + j) = omega (arith, width) in
      let next : a + 1 + i ≡ a + suc i = omega arith in
      ap (λ (k : ℕ). slice_index_or (row a ++ flat_map row (range_with_len (a + 1) m)) k 0) place
      ∙ get_or-append-add (row a) (flat_map row (range_with_len (a + 1) m)) (i * (n + 1) + j) 0
      ∙ row-at (a + 1) m i j (omega (arith, less)) within
      ∙ ap (λ (k : ℕ). slice_index_or (row k) j 0) next

  pub table-at : (w : ℕ) (o : Option ℕ) → are_below n w o ≡ true → count_at n (table_of n f).counts w o ≡ f w o
  table-at w o there =
      let start : 0 + w ≡ w = omega arith in
      row-at 0 n w (column o) (below-row n w o there) (below-column n w o there) ∙ ap (λ (k : ℕ). slice_index_or (row k) (column o) 0) start ∙ cell w o there

  abbrev other_in : ℕ → Option ℕ
  other_in zero = None
  other_in (suc v) = Some v

  column-of : (j : ℕ) → column (other_in j) ≡ j
  column-of zero = refl
  column-of (suc v) = omega arith

  below-of : (w j : ℕ) → w < n → j < n + 1 → are_below n w (other_in j) ≡ true
  below-of w zero less within = lt-ltb w n less
  below-of w (suc v) less within =
      let here : v < n = omega (arith, within) in
      ap (λ (b : Bool). b && nat_lt v n) (lt-ltb w n less) ∙ lt-ltb v n here

  -- it is the one list that has them
  pub table-is : (counts : List ℕ) → length counts ≡ n * (n + 1) → ((w : ℕ) (o : Option ℕ) → are_below n w o ≡ true → count_at n counts w o ≡ f w o)
      → counts ≡ (table_of n f).counts
  table-is counts room each = ext_get_or 0 counts (table_of n f).counts (room ∙ sym (rows-length 0 n)) at
    where
      at : (k : ℕ) → k < length counts → slice_index_or counts k 0 ≡ slice_index_or (table_of n f).counts k 0
      at k less =
          let w = k / (n + 1) in
          let j = k % (n + 1) in
          let parts : j + w * (n + 1) ≡ k = mod-add-div' k (n + 1) in
          let within : j < n + 1 = mod-lt k {m = n + 1} (omega arith) in
          let few : w < n = row-few w j k parts less in
          let place : place_of n w (other_in j) ≡ k = (let col = column-of j in omega (arith, parts, col)) in
          let there = below-of w j few within in
          ap (λ (i : ℕ). slice_index_or counts i 0) (sym place) ∙ each w (other_in j) there ∙ sym (table-at w (other_in j) there)
          ∙ ap (λ (i : ℕ). slice_index_or (table_of n f).counts i 0) place
        where
          row-few : (w j k : ℕ) → j + w * (n + 1) ≡ k → k < length counts → w < n
          row-few w j k parts less = elim (cases_lt w n) [
            | inl lt ↦ lt
            | inr ge ↦ (let more : n * (n + 1) ≤ w * (n + 1) = mul-le-mul_right {m = n} {n = w} (n + 1) (omega (arith, ge)) in absurd (omega (arith, parts, less, room, more)))
          ]

-- The whole.

abbrev pub contents : ℕ → List ℕ → BlameContents
contents n counts = record { works = n; counts = counts }

pub ticked-is : (S : ScenarioContents) (s : State) (n : ℕ) (old new : List ℕ) → length new ≡ n * (n + 1) → HasCounted n old new (work_counts S s)
    → contents n new ≡ blame_ticked S s (contents n old)
ticked-is S s n old new room counted =
    ap (contents n) (table-is (λ w other. waited (contents n old) w other + work_counts S s w other) n new room each)
  where
    each : (w : ℕ) (o : Option ℕ) → are_below n w o ≡ true → count_at n new w o ≡ waited (contents n old) w o + work_counts S s w o
    each w o there = counted w o there ∙ ap (λ (b : Bool). cond b (count_at n old w o) 0 + work_counts S s w o) (sym there)

pub begun-is : (S : ScenarioContents) (n : ℕ) (counts : List ℕ) → n ≡ length S.works → length counts ≡ n * (n + 1) → ((k : ℕ) → k < n * (n + 1) → slice_index_or counts k 0 ≡ 0)
    → contents n counts ≡ no_blame S
begun-is S n counts is room zeros =
    ap (contents n) (table-is (λ w other. 0) n counts room (λ w o there. zeros (place_of n w o) (place-within n w o there)))
    ∙ ap (λ (k : ℕ). table_of k (λ w other. 0)) is

pub count-within : (n : ℕ) (B : BlameContents) (w : ℕ) (o : Option ℕ) → are_below B.works w o ≡ true → waited B w o ≤ n → count_at B.works B.counts w o ≤ n
count-within n B w o there within = subst (λ (b : Bool). cond b (count_at B.works B.counts w o) 0 ≤ n) there within
