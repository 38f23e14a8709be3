-- Columns of which equal neighbours are kept once: what is spread out after one more, and how many columns of a picture there are.
use Rattle.std.proofs.Common.{◌≡◌, ℕ, zero, suc, ◌+◌, ◌-◌, ◌*◌, ◌<◌, ◌≤◌, Bool, true, false, cond, ◌&&◌, List, [], ◌∷◌, ◌++◌, append-nil, append_assoc, length, length-append, map, take, arith, refl, sym, ap, ◌∙◌, subst}
use Rattle.std.proofs.Math.Nat.{mul-le-mul_right}
use Rattle.std.proofs.lemmas.Bool.Decides.{nat_tests}
use Rattle.std.proofs.lemmas.Grind.{flat_map-append}
use Rattle.std.proofs.lemmas.List.Folds.{length-flat_map-take}
use Rattle.std.proofs.lemmas.List.{length-replicate, map-append, take_all, take_more}
use Rattle.std.specs.Prelude.{nat_lt, replicate, slice_index_or, slice_set}
use Rattle.cmwq_picture.specs.Column.{ColumnContents}
use Rattle.cmwq_picture.specs.Equality.{column_eq}
use Rattle.cmwq_picture.specs.ExactEquality.{column_eq_is_exact}
use Rattle.cmwq_picture.specs.Folding.{added, all_added, columns_drawn, columns_of_stretch, edges_from, end_from, folds, is_open, is_wide, once, starts_from, stretches_of, ticks_drawn, ticks_each, ticks_of_stretch, width}
use Rattle.cmwq_picture.specs.Stretches.{columns_of, spread}
use Rattle.cmwq_picture.specs.declared.span.TheConstants.{MAX_COLUMNS}
use Rattle.cmwq_drawing.specs.declared.drawing.Span.{Span}
use Rattle.cmwq_picture.specs.declared.columns.Stretch.{Stretch}

-- One more column.

replicate-behind : {A : Type 0} (n : ℕ) (x : A) → replicate (suc n) x ≡ replicate n x ++ x ∷ []
replicate-behind zero x = refl
replicate-behind {A} (suc n) x = ap (λ (xs : List A). x ∷ xs) (replicate-behind n x)

replicate-more : {A : Type 0} (n : ℕ) (x : A) → replicate (n + 1) x ≡ replicate n x ++ x ∷ []
replicate-more n x = (let next : n + 1 ≡ suc n = omega arith in ap (λ (k : ℕ). replicate k x) next) ∙ replicate-behind n x

spread-if : (s : Stretch) (c : ColumnContents) (b : Bool) → column_eq s.column c ≡ b
    → spread (cond b (record s { count = s.count + 1 } ∷ []) (s ∷ once c ∷ [])) ≡ spread (s ∷ []) ++ c ∷ []
spread-if s c true is =
    let same : s.column ≡ c = (column_eq_is_exact s.column c).0 is in
    append-nil (replicate (s.count + 1) s.column) ∙ replicate-more s.count s.column
    ∙ ap (λ (last : ColumnContents). replicate s.count s.column ++ last ∷ []) same
    ∙ sym (ap (λ (cs : List ColumnContents). cs ++ c ∷ []) (append-nil (columns_of s)))
spread-if s c false is = sym (append_assoc (columns_of s) [] (c ∷ []))

pub spread-added : (ss : List Stretch) (c : ColumnContents) → spread (added ss c) ≡ spread ss ++ c ∷ []
spread-added [] c = refl
spread-added (s ∷ []) c = spread-if s c (column_eq s.column c) refl
spread-added (s ∷ t ∷ ss) c =
    ap (λ (cs : List ColumnContents). columns_of s ++ cs) (spread-added (t ∷ ss) c) ∙ sym (append_assoc (columns_of s) (spread (t ∷ ss)) (c ∷ []))

-- All of them.

all_added-append : (ss : List Stretch) (xs ys : List ColumnContents) → all_added ss (xs ++ ys) ≡ all_added (all_added ss xs) ys
all_added-append ss [] ys = refl
all_added-append ss (x ∷ xs) ys = all_added-append (added ss x) xs ys

pub stretches-more : (cs : List ColumnContents) (c : ColumnContents) → stretches_of (cs ++ c ∷ []) ≡ added (stretches_of cs) c
stretches-more cs c = all_added-append [] cs (c ∷ [])

spread-all : (ss : List Stretch) (cs : List ColumnContents) → spread (all_added ss cs) ≡ spread ss ++ cs
spread-all ss [] = sym (append-nil (spread ss))
spread-all ss (c ∷ cs) =
    spread-all (added ss c) cs ∙ ap (λ (front : List ColumnContents). front ++ cs) (spread-added ss c) ∙ append_assoc (spread ss) (c ∷ []) cs

-- written out, the stretches are the columns
pub spread-stretches : (cs : List ColumnContents) → spread (stretches_of cs) ≡ cs
spread-stretches cs = spread-all [] cs

-- what is stored after one more
pub merged-after : (old new : List Stretch) (c : ColumnContents) → stretches_of (spread old) ≡ old → new ≡ added old c → stretches_of (spread new) ≡ new
merged-after old new c merged is =
    ap (λ (ss : List Stretch). stretches_of (spread ss)) is ∙ ap stretches_of (spread-added old c) ∙ stretches-more (spread old) c
    ∙ ap (λ (ss : List Stretch). added ss c) merged ∙ sym is

added-if : (s : Stretch) (c : ColumnContents) (b : Bool) → column_eq s.column c ≡ b → b ≡ true
    → record { column = s.column; count = s.count + 1 } ∷ [] ≡ cond b (record s { count = s.count + 1 } ∷ []) (s ∷ once c ∷ [])
added-if s c true is holds = refl
added-if s c false is holds = absurd cc

added-unless : (s : Stretch) (c : ColumnContents) (b : Bool) → column_eq s.column c ≡ b → b ≡ false
    → s ∷ once c ∷ [] ≡ cond b (record s { count = s.count + 1 } ∷ []) (s ∷ once c ∷ [])
added-unless s c true is fails = absurd cc
added-unless s c false is fails = refl

-- the first stretch begins
pub added-first : (ss : List Stretch) (c : ColumnContents) → length ss ≡ 0 → ss ++ once c ∷ [] ≡ added ss c
added-first [] c none = refl
added-first (s ∷ ss) c none = absurd (omega arith)

-- the last stretch goes on
pub added-same : (ss : List Stretch) (k : ℕ) (s : Stretch) (c : ColumnContents) → k + 1 ≡ length ss → s ≡ slice_index_or ss k s → column_eq s.column c ≡ true
    → slice_set ss k (record { column = s.column; count = s.count + 1 }) ≡ added ss c
added-same [] k s c last here same = absurd (omega arith)
added-same (t ∷ []) zero s c last here same =
    ap (λ (x : Stretch). record { column = x.column; count = x.count + 1 } ∷ []) here
    ∙ added-if t c (column_eq t.column c) refl (ap (λ (x : Stretch). column_eq x.column c) (sym here) ∙ same)
added-same (t ∷ []) (suc k) s c last here same = absurd (omega arith)
added-same (t ∷ u ∷ ss) zero s c last here same = absurd (omega arith)
added-same (t ∷ u ∷ ss) (suc k) s c last here same = ap (λ (more : List Stretch). t ∷ more) (added-same (u ∷ ss) k s c (omega arith) here same)

-- or another one begins
pub added-new : (ss : List Stretch) (k : ℕ) (s : Stretch) (c : ColumnContents) → k + 1 ≡ length ss → s ≡ slice_index_or ss k s → column_eq s.column c ≡ false
    → ss ++ once c ∷ [] ≡ added ss c
added-new [] k s c last here differs = absurd (omega arith)
added-new (t ∷ []) zero s c last here differs =
    added-unless t c (column_eq t.column c) refl (ap (λ (x : Stretch). column_eq x.column c) (sym here) ∙ differs)
added-new (t ∷ []) (suc k) s c last here differs = absurd (omega arith)
added-new (t ∷ u ∷ ss) zero s c last here differs = absurd (omega arith)
added-new (t ∷ u ∷ ss) (suc k) s c last here differs = ap (λ (more : List Stretch). t ∷ more) (added-new (u ∷ ss) k s c (omega arith) here differs)

-- Lengths.

longer-if : (s : Stretch) (c : ColumnContents) (b : Bool) → 1 ≤ length (cond b (record s { count = s.count + 1 } ∷ []) (s ∷ once c ∷ []))
longer-if s c true = omega arith
longer-if s c false = omega arith

longer-added : (ss : List Stretch) (c : ColumnContents) → length ss ≤ length (added ss c)
longer-added [] c = omega arith
longer-added (s ∷ []) c = longer-if s c (column_eq s.column c)
longer-added (s ∷ t ∷ ss) c = (let more = longer-added (t ∷ ss) c in omega (arith, more))

longer-all : (ss : List Stretch) (cs : List ColumnContents) → length ss ≤ length (all_added ss cs)
longer-all ss [] = omega arith
longer-all ss (c ∷ cs) = (let one = longer-added ss c in let more = longer-all (added ss c) cs in omega (arith, one, more))

pub stretches-longer : (cs more : List ColumnContents) → length (stretches_of cs) ≤ length (stretches_of (cs ++ more))
stretches-longer cs more =
    subst (λ (ss : List Stretch). length (stretches_of cs) ≤ length ss) (sym (all_added-append [] cs more)) (longer-all (stretches_of cs) more)

-- each stretch has a tick
abbrev AllCounted : List Stretch → Type 0
AllCounted [] = Unit {0}
AllCounted (s ∷ ss) = (0 < s.count) × AllCounted ss

counted-if : (s : Stretch) (c : ColumnContents) (b : Bool) → 0 < s.count → AllCounted (cond b (record s { count = s.count + 1 } ∷ []) (s ∷ once c ∷ []))
counted-if s c true some = (omega arith, tt)
counted-if s c false some = (some, (omega arith, tt))

counted-added : (ss : List Stretch) (c : ColumnContents) → AllCounted ss → AllCounted (added ss c)
counted-added [] c counted = (omega arith, tt)
counted-added (s ∷ []) c counted = counted-if s c (column_eq s.column c) counted.0
counted-added (s ∷ t ∷ ss) c counted = (counted.0, counted-added (t ∷ ss) c counted.1)

counted-all : (ss : List Stretch) (cs : List ColumnContents) → AllCounted ss → AllCounted (all_added ss cs)
counted-all ss [] counted = counted
counted-all ss (c ∷ cs) counted = counted-all (added ss c) cs (counted-added ss c counted)

width-if : (b : Bool) (n : ℕ) → 0 < n → 0 < cond b 1 n
width-if true n some = omega arith
width-if false n some = some

no-fewer : (fold : Bool) (ss : List Stretch) → AllCounted ss → length ss ≤ length (ticks_drawn fold ss)
no-fewer fold [] counted = omega arith
no-fewer fold (s ∷ ss) counted =
    let some = width-if (folds fold s) s.count counted.0 in
    let one = length-replicate (width fold s) (ticks_each fold s) in
    let both = length-append (ticks_of_stretch fold s) (ticks_drawn fold ss) in
    let more = no-fewer fold ss counted.1 in
    omega (arith, some, one, both, more)

-- no stretch is without a column
pub stretches-fit : (fold : Bool) (cs : List ColumnContents) → length (stretches_of cs) ≤ length (ticks_drawn fold (stretches_of cs))
stretches-fit fold cs = no-fewer fold (stretches_of cs) (counted-all [] cs tt)

-- Ticks.

each-if : (b : Bool) (n : ℕ) → cond b 1 n * cond b n 1 ≡ n
each-if true n = omega arith
each-if false n = omega arith

-- so many columns of so many ticks are the ticks of the stretch
pub all_ticks : (fold : Bool) (s : Stretch) → width fold s * ticks_each fold s ≡ s.count
all_ticks fold s = each-if (folds fold s) s.count

pub end-append : (time : ℕ) (xs ys : List ℕ) → end_from time (xs ++ ys) ≡ end_from (end_from time xs) ys
end-append time [] ys = refl
end-append time (x ∷ xs) ys = end-append (time + x) xs ys

pub starts-append : (time : ℕ) (xs ys : List ℕ) → starts_from time (xs ++ ys) ≡ starts_from time xs ++ starts_from (end_from time xs) ys
starts-append time [] ys = refl
starts-append time (x ∷ xs) ys = ap (λ (more : List ℕ). time ∷ more) (starts-append (time + x) xs ys)

length-starts : (time : ℕ) (ticks : List ℕ) → length (starts_from time ticks) ≡ length ticks
length-starts time [] = refl
length-starts time (x ∷ xs) = (let more = length-starts (time + x) xs in omega (arith, more))

pub length-edges : (time : ℕ) (ticks : List ℕ) → length (edges_from time ticks) ≡ length ticks + 1
length-edges time ticks =
    let both = length-append (starts_from time ticks) (end_from time ticks ∷ []) in
    let starts = length-starts time ticks in
    omega (arith, both, starts)

many-if : (n m : ℕ) (b : Bool) → b ≡ true → n ≡ m + 1 → nat_lt 501 n ≡ (b && nat_lt MAX_COLUMNS m)
many-if n m true is more = grind (arith, nat_tests, more)
many-if n m false is more = absurd cc

-- so many edges tell of so many columns
pub is_wide-edges : (span : Span) (cs : List ColumnContents) (edges : List ℕ) (n : ℕ) → is_open span ≡ true → edges ≡ edges_from 0 (ticks_drawn true (stretches_of cs)) → n ≡ length edges
    → nat_lt 501 n ≡ is_wide span cs
is_wide-edges span cs edges n opened is counted =
    let ticks = ticks_drawn true (stretches_of cs) in
    many-if n (length ticks) (is_open span) opened (counted ∙ ap length is ∙ length-edges 0 ticks)

-- The columns of one stretch.

end-replicate : (n ticks time : ℕ) → end_from time (replicate n ticks) ≡ time + n * ticks
end-replicate zero ticks time = omega arith
end-replicate (suc n) ticks time = (let more = end-replicate n ticks (time + ticks) in omega (arith, more))

pub end-columns : (n ticks time end : ℕ) → end ≡ time + n * ticks → end ≡ end_from time (replicate n ticks)
end-columns n ticks time end is = is ∙ sym (end-replicate n ticks time)

-- one column more
pub starts-more : (n ticks time at : ℕ) (first old new : List ℕ) → at ≡ time + n * ticks → old ≡ first ++ starts_from time (replicate n ticks) → new ≡ old ++ at ∷ []
    → new ≡ first ++ starts_from time (replicate (n + 1) ticks)
starts-more n ticks time at first old new is so_far pushed =
    pushed ∙ ap (λ (xs : List ℕ). xs ++ at ∷ []) so_far ∙ append_assoc first (starts_from time (replicate n ticks)) (at ∷ [])
    ∙ ap (λ (t : ℕ). first ++ (starts_from time (replicate n ticks) ++ t ∷ [])) (end-columns n ticks time at is)
    ∙ ap (λ (xs : List ℕ). first ++ xs) (sym (starts-append time (replicate n ticks) (ticks ∷ [])))
    ∙ ap (λ (xs : List ℕ). first ++ starts_from time xs) (sym (replicate-more n ticks))

-- what a column more comes to is no more than all
pub below-all : (k n ticks time end : ℕ) → k < n → time + n * ticks < end → time + k * ticks + ticks < end
below-all k n ticks time end less within =
    let most : suc k * ticks ≤ n * ticks = mul-le-mul_right ticks less in
    let next : suc k * ticks ≡ k * ticks + ticks = omega arith in
    omega (arith, most, next, within)

-- The columns of all stretches.

module _ (fold : Bool) where
  drawn-more : (ss : List Stretch) (i : ℕ) (d : Stretch) → i < length ss → ticks_drawn fold (take (i + 1) ss) ≡ ticks_drawn fold (take i ss) ++ ticks_of_stretch fold (slice_index_or ss i d)
  drawn-more ss i d less =
      ap (ticks_drawn fold) (take_more ss i d less) ∙ flat_map-append (ticks_of_stretch fold) (take i ss) (slice_index_or ss i d ∷ [])
      ∙ ap (λ (xs : List ℕ). ticks_drawn fold (take i ss) ++ xs) (append-nil (ticks_of_stretch fold (slice_index_or ss i d)))

  -- one stretch more
  pub end-stretch : (ss : List Stretch) (i : ℕ) (s : Stretch) (from time w n end : ℕ) → i < length ss → s ≡ slice_index_or ss i s → w ≡ width fold s → n ≡ ticks_each fold s
      → time ≡ end_from from (ticks_drawn fold (take i ss)) → end ≡ end_from time (replicate w n) → end ≡ end_from from (ticks_drawn fold (take (i + 1) ss))
  end-stretch ss i s from time w n end less here wide each so_far is =
      is ∙ ap (λ (k : ℕ). end_from time (replicate k n)) wide ∙ ap (λ (k : ℕ). end_from time (replicate (width fold s) k)) each
      ∙ ap (λ (t : ℕ). end_from t (ticks_of_stretch fold s)) so_far ∙ ap (λ (x : Stretch). end_from (end_from from (ticks_drawn fold (take i ss))) (ticks_of_stretch fold x)) here
      ∙ sym (end-append from (ticks_drawn fold (take i ss)) (ticks_of_stretch fold (slice_index_or ss i s)))
      ∙ ap (end_from from) (sym (drawn-more ss i s less))

  pub starts-stretch : (ss : List Stretch) (i : ℕ) (s : Stretch) (from time w n : ℕ) (first old new : List ℕ) → i < length ss → s ≡ slice_index_or ss i s → w ≡ width fold s → n ≡ ticks_each fold s
      → time ≡ end_from from (ticks_drawn fold (take i ss)) → old ≡ first ++ starts_from from (ticks_drawn fold (take i ss)) → new ≡ old ++ starts_from time (replicate w n)
      → new ≡ first ++ starts_from from (ticks_drawn fold (take (i + 1) ss))
  starts-stretch ss i s from time w n first old new less here wide each at so_far pushed =
      let before = ticks_drawn fold (take i ss) in
      pushed ∙ ap (λ (k : ℕ). old ++ starts_from time (replicate k n)) wide ∙ ap (λ (k : ℕ). old ++ starts_from time (replicate (width fold s) k)) each
      ∙ ap (λ (t : ℕ). old ++ starts_from t (ticks_of_stretch fold s)) at ∙ ap (λ (x : Stretch). old ++ starts_from (end_from from before) (ticks_of_stretch fold x)) here
      ∙ ap (λ (xs : List ℕ). xs ++ starts_from (end_from from before) (ticks_of_stretch fold (slice_index_or ss i s))) so_far
      ∙ append_assoc first (starts_from from before) (starts_from (end_from from before) (ticks_of_stretch fold (slice_index_or ss i s)))
      ∙ ap (λ (xs : List ℕ). first ++ xs) (sym (starts-append from before (ticks_of_stretch fold (slice_index_or ss i s))))
      ∙ ap (λ (xs : List ℕ). first ++ starts_from from xs) (sym (drawn-more ss i s less))

  -- the time behind the first stretches, and that behind one more, are no later than all ticks come to
  end-drawn : (ss : List Stretch) (from : ℕ) → end_from from (ticks_drawn fold ss) ≡ from + length (spread ss)
  end-drawn [] from = omega arith
  end-drawn (s ∷ ss) from =
      let one = end-replicate (width fold s) (ticks_each fold s) from in
      let all = all_ticks fold s in
      let count = length-replicate s.count s.column in
      let lengths = length-append (columns_of s) (spread ss) in
      let more = end-drawn ss (end_from from (ticks_of_stretch fold s)) in
      end-append from (ticks_of_stretch fold s) (ticks_drawn fold ss) ∙ (omega (arith, one, all, count, lengths, more))

  pub within-all : (ss : List Stretch) (i : ℕ) (s : Stretch) (from time w n end : ℕ) → i < length ss → s ≡ slice_index_or ss i s → w ≡ width fold s → n ≡ ticks_each fold s
      → time ≡ end_from from (ticks_drawn fold (take i ss)) → (0 < length (spread ss) → from + length (spread ss) < end) → from < end → time + w * n < end
  within-all ss i s from time w n end less here wide each at within some =
      let so_far = end-drawn (take i ss) from in
      let ticks : w * n ≡ s.count = ap (λ (k : ℕ). k * n) wide ∙ ap (λ (k : ℕ). width fold s * k) each ∙ all_ticks fold s in
      let most : length (spread (take i ss)) + s.count ≤ length (spread ss) =
      subst (λ (x : Stretch). length (spread (take i ss)) + x.count ≤ length (spread ss)) (sym here) (spread-take ss i s less) in
      bounded (length (spread ss)) within some (omega (arith, at, so_far, ticks, most))
    where
      spread-take : (ss : List Stretch) (i : ℕ) (d : Stretch) → i < length ss → length (spread (take i ss)) + (slice_index_or ss i d).count ≤ length (spread ss)
      spread-take ss i d less =
          let most = length-flat_map-take columns_of ss i d less in
          let count = length-replicate (slice_index_or ss i d).count (slice_index_or ss i d).column in
          omega (arith, most, count)

      bounded : (all : ℕ) → (0 < all → from + all < end) → from < end → time + w * n ≤ from + all → time + w * n < end
      bounded zero within some most = omega (arith, some, most)
      bounded (suc all) within some most = (let last = within (omega arith) in omega (arith, last, most))

-- What is made of each column, stretch by stretch.

module _ {A : Type 0} (f : ColumnContents → A) where
  pub map-replicate : (n : ℕ) (c : ColumnContents) → map f (replicate n c) ≡ replicate n (f c)
  map-replicate zero c = refl
  map-replicate (suc n) c = ap (λ (xs : List A). f c ∷ xs) (map-replicate n c)

  module _ (fold : Bool) where
    one-more : (ss : List Stretch) (i : ℕ) (d : Stretch) → i < length ss
        → map f (columns_drawn fold (take (i + 1) ss)) ≡ map f (columns_drawn fold (take i ss)) ++ replicate (width fold (slice_index_or ss i d)) (f (slice_index_or ss i d).column)
    one-more ss i d less =
        let s = slice_index_or ss i d in
        ap (λ (ts : List Stretch). map f (columns_drawn fold ts)) (take_more ss i d less)
        ∙ ap (map f) (flat_map-append (columns_of_stretch fold) (take i ss) (s ∷ []))
        ∙ map-append f (columns_drawn fold (take i ss)) (columns_of_stretch fold s ++ [])
        ∙ ap (λ (cs : List ColumnContents). map f (columns_drawn fold (take i ss)) ++ map f cs) (append-nil (columns_of_stretch fold s))
        ∙ ap (λ (xs : List A). map f (columns_drawn fold (take i ss)) ++ xs) (map-replicate (width fold s) s.column)

    -- a list that was filled up by as many
    pub grown : (ss : List Stretch) (i : ℕ) (s : Stretch) (x : A) (k n w : ℕ) (first old new : List A) → i < length ss → s ≡ slice_index_or ss i s → x ≡ f s.column → w ≡ width fold s → k ≡ n → n ≡ length old
        → old ≡ first ++ map f (columns_drawn fold (take i ss)) → new ≡ take (k + w) old ++ replicate ((k + w) - n) x → new ≡ first ++ map f (columns_drawn fold (take (i + 1) ss))
    grown ss i s x k n w first old new less here is wide same long so_far filled =
        let more : (k + w) - n ≡ w = omega (arith, same) in
        let cells : Stretch → List A = λ t. first ++ (map f (columns_drawn fold (take i ss)) ++ replicate (width fold t) (f t.column)) in
        filled
        ∙ ap (λ (xs : List A). xs ++ replicate ((k + w) - n) x) (take_all (k + w) old (omega (arith, same, long)))
        ∙ ap (λ (m : ℕ). old ++ replicate m x) (more ∙ wide)
        ∙ ap (λ (y : A). old ++ replicate (width fold s) y) is
        ∙ ap (λ (xs : List A). xs ++ replicate (width fold s) (f s.column)) so_far
        ∙ append_assoc first (map f (columns_drawn fold (take i ss))) (replicate (width fold s) (f s.column))
        ∙ ap cells here
        ∙ ap (λ (xs : List A). first ++ xs) (sym (one-more ss i s less))
