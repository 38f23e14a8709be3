-- Rows that are cut from the columns are the picture's.
use Rattle.std.proofs.Common.{◌≡◌, ℕ, zero, suc, ◌+◌, ◌*◌, ◌<◌, Bool, true, false, cond, ◌&&◌, List, [], ◌∷◌, ◌++◌, length, map, append-nil, append_assoc, Option, Some, None, arith, refl, sym, ap, ◌∙◌}
use Rattle.std.proofs.lemmas.Grind.{flat_map-append}
use Rattle.std.proofs.lemmas.List.{map-append}
use Rattle.std.proofs.lemmas.List.FromFn.{get_or-map-range_with_len, map-range_with_len_more}
use Rattle.std.specs.List.{cons_option, filter, filter_map, find, flat_map, range_with_len}
use Rattle.cmwq_types.specs.Contents.{ScenarioContents}
use Rattle.cmwq_table.specs.Counts.{burns, runs}
use Rattle.cmwq_table.specs.State.{State, running_at}
use Rattle.cmwq_table.specs.declared.state.Running.{Running}
use Rattle.cmwq_picture.specs.Column.{ColumnContents, burner_in, burning, burning_as, cell_of_burning, column_of, cut, cut_rows, cell_shown}
use Rattle.cmwq_picture.specs.PictureContents.{RowContents}
use Rattle.cmwq_picture.specs.Laws.{IsDeclaredRow}
use Rattle.cmwq_picture.specs.Picture.{Deeds, below, burner_cell, burns_in, cell, pending_shown, stands_in_picture, stands_in, work_shown, work_titles}
use Rattle.cmwq_picture.proofs.ListLemmas.{below-more}
use Rattle.cmwq_picture.specs.declared.cell.Cell.{Cell}
use Rattle.cmwq_picture.specs.declared.cell.Cell.TheVariants.{Empty, Burner}
use Rattle.cmwq_picture.specs.declared.column.Burning.{Burning}
use Rattle.cmwq_picture.specs.declared.row.Title.{Title}
use Rattle.cmwq_picture.specs.declared.row.Title.TheVariants as title

-- The work that burns there.

module _ (S : ScenarioContents) (s : State) (at : Title) where
  chosen : (c : Bool) (b : Burning) (rest : List Burning) (later : Option ℕ) → cell_of_burning (find (λ b. stands_in S at b.work.0 b.pool b.worker) rest) ≡ burner_cell later
      → cell_of_burning (cond c (Some b) (find (λ b. stands_in S at b.work.0 b.pool b.worker) rest)) ≡ burner_cell (cond c (Some b.work.0) later)
  chosen true b rest later same = refl
  chosen false b rest later same = same

  one-burner : (w : ℕ) (r : Option Running) (burns : Bool) (rest : List Burning) (later : Option ℕ)
      → cell_of_burning (find (λ b. stands_in S at b.work.0 b.pool b.worker) rest) ≡ burner_cell later
      → cell_of_burning (find (λ b. stands_in S at b.work.0 b.pool b.worker) (cons_option (cond burns (burning_as w r) None) rest))
      ≡ burner_cell (cond (burns && runs (λ r. stands_in S at w r.pool r.worker) r) (Some w) later)
  one-burner w (Some r) true rest later same = chosen (stands_in S at w r.pool r.worker) (record { work = record { 0 = w }; pool = r.pool; worker = r.worker }) rest later same
  one-burner w None true rest later same = same
  one-burner w r false rest later same = same

  pub burner-found : (ws : List ℕ) → burner_in S at (filter_map (burning S s) ws) ≡ burner_cell (find (burns_in S s at) ws)
  burner-found [] = refl
  burner-found (w ∷ ws) = one-burner w (running_at s w) (burns S s w (running_at s w)) (filter_map (burning S s) ws) (find (burns_in S s at) ws) (burner-found ws)

-- Cells.

-- what a row reads off a column is what is so in its state
pub cell-shown : (S : ScenarioContents) (s : State) (deeds : Deeds) (at : Title) → IsDeclaredRow S at → cell_shown S at (column_of S s deeds) ≡ cell S deeds at s
cell-shown S s deeds (title.Work w) fits = get_or-map-range_with_len (work_shown S deeds.armed s) 0 (length S.works) w.0 w.0 Empty fits (omega arith)
cell-shown S s deeds (title.Pending w) fits = get_or-map-range_with_len (pending_shown deeds.armed s) 0 (length S.works) w.0 w.0 Empty fits (omega arith)
cell-shown S s deeds (title.Cpu cpu) fits = burner-found S s (title.Cpu cpu) (below (length S.works))
cell-shown S s deeds (title.Worker pool worker) fits = burner-found S s (title.Worker pool worker) (below (length S.works))
cell-shown S s deeds (title.Rescuer queue) fits = burner-found S s (title.Rescuer queue) (below (length S.works))
cell-shown S s deeds title.Frozen fits = refl
cell-shown S s deeds title.Pressed fits = refl
cell-shown S s deeds title.Actor fits = refl

pub cells-shown : (S : ScenarioContents) (deeds : State → Deeds) (at : Title) (states : List State) → IsDeclaredRow S at
    → map (cell_shown S at) (map (λ s. column_of S s (deeds s)) states) ≡ map (λ s. cell S (deeds s) at s) states
cells-shown S deeds at [] fits = refl
cells-shown S deeds at (s ∷ states) fits =
    ap (λ (c : Cell). c ∷ map (cell_shown S at) (map (λ s. column_of S s (deeds s)) states)) (cell-shown S s (deeds s) at fits)
    ∙ ap (λ (cells : List Cell). cell S (deeds s) at s ∷ cells) (cells-shown S deeds at states fits)

-- One part after another.

kept-first : {A : Type 0} (b : Bool) (x : A) (kept xs ys : List A) → kept ≡ xs ++ ys → cond b (x ∷ kept) kept ≡ cond b (x ∷ xs) xs ++ ys
kept-first {A} true x kept xs ys same = ap (λ (rest : List A). x ∷ rest) same
kept-first false x kept xs ys same = same

filter-both : {A : Type 0} (f : A → Bool) (xs ys : List A) → filter f (xs ++ ys) ≡ filter f xs ++ filter f ys
filter-both f [] ys = refl
filter-both f (x ∷ xs) ys = kept-first (f x) x (filter f (xs ++ ys)) (filter f xs) (filter f ys) (filter-both f xs ys)

-- the works that have rows, with one number more
titles-if : (p : ℕ → Bool) (n : ℕ) (b : Bool) → p n ≡ b → flat_map work_titles (filter p (n ∷ [])) ≡ cond b (work_titles n) []
titles-if p n true is = ap (λ (b : Bool). flat_map work_titles (cond b (n ∷ []) [])) is
titles-if p n false is = ap (λ (b : Bool). flat_map work_titles (cond b (n ∷ []) [])) is

titles-more : (p : ℕ → Bool) (n : ℕ) (b : Bool) → p n ≡ b
    → flat_map work_titles (filter p (below (n + 1))) ≡ flat_map work_titles (filter p (below n)) ++ cond b (work_titles n) []
titles-more p n b is =
    ap (λ (ns : List ℕ). flat_map work_titles (filter p ns)) (below-more n) ∙ ap (flat_map work_titles) (filter-both p (below n) (n ∷ []))
    ∙ flat_map-append work_titles (filter p (below n)) (filter p (n ∷ []))
    ∙ ap (λ (more : List Title). flat_map work_titles (filter p (below n)) ++ more) (titles-if p n b is)

module _ (S : ScenarioContents) (columns : List ColumnContents) where
  cut-both : (xs ys : List Title) → cut_rows S columns (xs ++ ys) ≡ cut_rows S columns xs ++ cut_rows S columns ys
  cut-both xs ys = ap (filter stands_in_picture) (map-append (cut S columns) xs ys) ∙ filter-both stands_in_picture (map (cut S columns) xs) (map (cut S columns) ys)

  -- rows that were pushed behind others
  pub then-pushed : (first old new : List RowContents) (xs ys : List Title) → old ≡ first ++ cut_rows S columns xs → new ≡ old ++ cut_rows S columns ys → new ≡ first ++ cut_rows S columns (xs ++ ys)
  then-pushed first old new xs ys so_far pushed =
      pushed ∙ ap (λ (rows : List RowContents). rows ++ cut_rows S columns ys) so_far ∙ append_assoc first (cut_rows S columns xs) (cut_rows S columns ys)
      ∙ ap (λ (rows : List RowContents). first ++ rows) (sym (cut-both xs ys))

  -- and one number more
  pub map-cut : (f : ℕ → Title) (n : ℕ) (first old new : List RowContents) → old ≡ first ++ cut_rows S columns (map f (below n)) → new ≡ old ++ cut_rows S columns (f n ∷ [])
      → new ≡ first ++ cut_rows S columns (map f (below (n + 1)))
  map-cut f n first old new so_far pushed =
      then-pushed first old new (map f (below n)) (f n ∷ []) so_far pushed
      ∙ ap (λ (titles : List Title). first ++ cut_rows S columns titles) (sym (map-range_with_len_more f 0 n n (omega arith)))

  -- and the rows of one work, if it has rows
  pub works-cut : (p : ℕ → Bool) (n : ℕ) (first old new : List RowContents) → old ≡ first ++ cut_rows S columns (flat_map work_titles (filter p (below n)))
      → p n ≡ true → new ≡ old ++ cut_rows S columns (work_titles n) → new ≡ first ++ cut_rows S columns (flat_map work_titles (filter p (below (n + 1))))
  works-cut p n first old new so_far holds pushed =
      then-pushed first old new (flat_map work_titles (filter p (below n))) (work_titles n) so_far pushed
      ∙ ap (λ (titles : List Title). first ++ cut_rows S columns titles) (sym (titles-more p n true holds))

  pub works-uncut : (p : ℕ → Bool) (n : ℕ) (first old : List RowContents) → old ≡ first ++ cut_rows S columns (flat_map work_titles (filter p (below n)))
      → p n ≡ false → old ≡ first ++ cut_rows S columns (flat_map work_titles (filter p (below (n + 1))))
  works-uncut p n first old so_far fails =
      so_far ∙ ap (λ (titles : List Title). first ++ cut_rows S columns titles)
      (sym (titles-more p n false fails ∙ append-nil (flat_map work_titles (filter p (below n)))))
