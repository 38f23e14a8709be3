-- Folded columns stand for ticks at which all is the same.
use Rattle.std.proofs.Common.{◌≡◌, ◌⊎◌, ℕ, zero, suc, ◌+◌, ◌*◌, ◌<◌, Bool, true, false, cond, not, ◌&&◌, List, [], ◌∷◌, ◌++◌, append_assoc, map, inl, inr, arith, refl, sym, ap, ◌∙◌}
use Rattle.std.proofs.lemmas.Bool.Decides.{nat_tests}
use Rattle.std.proofs.lemmas.List.{map-append}
use Rattle.std.specs.Prelude.{nat_lt, replicate}
use Rattle.cmwq_picture.specs.Column.{ColumnContents, cell_shown}
use Rattle.cmwq_picture.specs.Folding.{columns_drawn, columns_of_stretch, stretches_of, ticks_drawn, ticks_of_stretch, ticks_each, width}
use Rattle.cmwq_picture.specs.Laws.{FoldsLongStretches, ShowsEachTick, StandsForTicks, written_out}
use Rattle.cmwq_picture.specs.Picture.{columns}
use Rattle.cmwq_picture.specs.PictureOfRun.{ticks_told, told_of_tick}
use Rattle.cmwq_picture.specs.Stretches.{spread}
use Rattle.cmwq_picture.specs.declared.columns.Stretch.{Stretch}
use Rattle.cmwq_picture.specs.declared.span.TheConstants.{MAX_UNFOLDED}
use Rattle.cmwq_picture.proofs.RowLemmas.{cells-shown}
use Rattle.cmwq_picture.proofs.StretchLemmas.{all_ticks, map-replicate, spread-stretches}

module _ {A : Type 0} where
  replicate-both : (m n : ℕ) (x : A) → replicate (m + n) x ≡ replicate m x ++ replicate n x
  replicate-both zero n x = (let same : 0 + n ≡ n = omega arith in ap (λ (k : ℕ). replicate k x) same)
  replicate-both (suc m) n x =
      (let next : suc m + n ≡ suc (m + n) = omega arith in ap (λ (k : ℕ). replicate k x) next) ∙ ap (λ (xs : List A). x ∷ xs) (replicate-both m n x)

  written-front : (w n : ℕ) (x : A) (xs : List A) (ns : List ℕ) → written_out (replicate w x ++ xs) (replicate w n ++ ns) ≡ replicate (w * n) x ++ written_out xs ns
  written-front zero n x xs ns = (let none : 0 ≡ 0 * n = omega arith in ap (λ (k : ℕ). replicate k x ++ written_out xs ns) none)
  written-front (suc w) n x xs ns =
      let next : n + w * n ≡ suc w * n = omega arith in
      ap (λ (more : List A). replicate n x ++ more) (written-front w n x xs ns) ∙ sym (append_assoc (replicate n x) (replicate (w * n) x) (written_out xs ns))
      ∙ ap (λ (front : List A). front ++ written_out xs ns) (sym (replicate-both n (w * n) x)) ∙ ap (λ (k : ℕ). replicate k x ++ written_out xs ns) next

  module _ (f : ColumnContents → A) (fold : Bool) where
    written : (ss : List Stretch) → written_out (map f (columns_drawn fold ss)) (ticks_drawn fold ss) ≡ map f (spread ss)
    written [] = refl
    written (s ∷ ss) =
        let rest = written_out (map f (columns_drawn fold ss)) (ticks_drawn fold ss) in
        ap (λ (xs : List A). written_out xs (ticks_of_stretch fold s ++ ticks_drawn fold ss))
        (map-append f (columns_of_stretch fold s) (columns_drawn fold ss) ∙ ap (λ (xs : List A). xs ++ map f (columns_drawn fold ss)) (map-replicate f (width fold s) s.column))
        ∙ written-front (width fold s) (ticks_each fold s) (f s.column) (map f (columns_drawn fold ss)) (ticks_drawn fold ss)
        ∙ ap (λ (n : ℕ). replicate n (f s.column) ++ rest) (all_ticks fold s)
        ∙ ap (λ (xs : List A). replicate s.count (f s.column) ++ xs) (written ss)
        ∙ ap (λ (xs : List A). xs ++ map f (spread ss)) (sym (map-replicate f s.count s.column))
        ∙ sym (map-append f (replicate s.count s.column) (spread ss))

    -- of the columns of a picture, each as often as it has ticks, what is so at each tick
    pub written-columns : (cs : List ColumnContents) → written_out (map f (columns_drawn fold (stretches_of cs))) (ticks_drawn fold (stretches_of cs)) ≡ map f cs
    written-columns cs = written (stretches_of cs) ∙ ap (map f) (spread-stretches cs)

pub shows_each_tick : ShowsEachTick
unfolding ShowsEachTick
shows_each_tick S instrs span fold row declared =
    written-columns (cell_shown S row) fold (ticks_told S instrs span) ∙ cells-shown S (λ s. told_of_tick S instrs s.time) row (columns S instrs span) declared

-- Which are folded.

stands-front : (w n : ℕ) (c : ColumnContents) (cs : List ColumnContents) (ns : List ℕ) → ((n ≡ 1) ⊎ ((MAX_UNFOLDED < n) × (c.acted ≡ false))) → StandsForTicks cs ns
    → StandsForTicks (replicate w c ++ cs) (replicate w n ++ ns)
stands-front zero n c cs ns here later = later
stands-front (suc w) n c cs ns here later = (here, stands-front w n c cs ns here later)

long-if : (fold long acted : Bool) (n : ℕ) (c : ColumnContents) → nat_lt MAX_UNFOLDED n ≡ long → c.acted ≡ acted
    → (cond (fold && long && not acted) n 1 ≡ 1) ⊎ ((MAX_UNFOLDED < cond (fold && long && not acted) n 1) × (c.acted ≡ false))
long-if true true true n c is did = inl refl
long-if true true false n c is did = inr (grind (arith, nat_tests), did)
long-if true false acted n c is did = inl refl
long-if false long acted n c is did = inl refl

stands : (fold : Bool) (ss : List Stretch) → StandsForTicks (columns_drawn fold ss) (ticks_drawn fold ss)
stands fold [] = tt
stands fold (s ∷ ss) =
    stands-front (width fold s) (ticks_each fold s) s.column (columns_drawn fold ss) (ticks_drawn fold ss)
    (long-if fold (nat_lt MAX_UNFOLDED s.count) s.column.acted s.count s.column refl refl) (stands fold ss)

pub folds_long_stretches : FoldsLongStretches
unfolding FoldsLongStretches
folds_long_stretches columns fold = stands fold (stretches_of columns)
