-- A work's row shows what it burns.
use Rattle.std.proofs.Common.{◌≡◌, ℕ, ◌+◌, ◌-◌, Bool, List, [], ◌∷◌, ◌++◌, arith, ap, refl, ◌∙◌}
use Rattle.std.proofs.lemmas.List.Elements.{All-filter, All-map}
use Rattle.std.specs.List.{count_by}
use Rattle.std.specs.Prelude.{map, slice_index_or}
use Rattle.cmwq_types.specs.Contents.{ScenarioContents}
use Rattle.cmwq_types.specs.Faults.{IsValid}
use Rattle.cmwq_types.specs.declared.instr.Instr.{Instr}
use Rattle.cmwq_table.specs.Laws.{state_after}
use Rattle.cmwq_table.specs.State.{State}
use Rattle.cmwq_table.specs.Table.{run}
use Rattle.cmwq_burning.specs.Burning.{BurnsItsBody, IsCarriedOut, ticks_burned, burns_of_body}
use Rattle.cmwq_burning.proofs.Conclusions.{burns_its_body}
use Rattle.cmwq_picture.specs.PictureContents.{RowContents}
use Rattle.cmwq_picture.specs.Column.{ColumnContents, cell_shown, cut}
use Rattle.cmwq_picture.specs.Folding.{columns_drawn, edges_from, stretches_of, ticks_drawn}
use Rattle.cmwq_picture.specs.Laws.{IsDeclaredRow, ShowsEachTick, written_out}
use Rattle.cmwq_picture.specs.Picture.{cell, columns, from_time, stands_in_picture, ticks_from, titles, work_sign}
use Rattle.cmwq_picture.specs.PictureOfRun.{is_folded, ticks_told, told_of_tick}
use Rattle.cmwq_picture.proofs.FoldLemmas.{shows_each_tick}
use Rattle.cmwq_drawing.specs.declared.drawing.Span.{Span}
use Rattle.cmwq_picture.specs.declared.row.Title.{Title}
use Rattle.cmwq_picture.specs.declared.row.Title.TheVariants as title
use Rattle.cmwq_picture_laws.specs.Signs.{ShowsItsBody, shows_burning, ticks_after, ticks_between, ticks_of}
use Rattle.cmwq_picture_laws.proofs.Declared.{row-declared}
use Rattle.cmwq_picture_laws.proofs.Columns.{columns-during}
use Rattle.cmwq_picture_laws.proofs.Counting.{counted-during, marked-counted}

-- Columns stand for the ticks between their edges.

-- the edges behind the first
abbrev tail_edges : ℕ → List ℕ → List ℕ
tail_edges time [] = []
tail_edges time (n ∷ ns) = (time + n) ∷ tail_edges (time + n) ns

after-from : (time : ℕ) (ticks : List ℕ) → ticks_after time (tail_edges time ticks) ≡ ticks
after-from time [] = refl
after-from time (n ∷ ns) =
    let first : (time + n) - time ≡ n = omega arith in
    ap (λ (m : ℕ). m ∷ ticks_after (time + n) (tail_edges (time + n) ns)) first ∙ ap (λ (ms : List ℕ). n ∷ ms) (after-from (time + n) ns)

edges-are : (time : ℕ) (ticks : List ℕ) → edges_from time ticks ≡ time ∷ tail_edges time ticks
edges-are time [] = refl
edges-are time (n ∷ ns) = ap (λ (later : List ℕ). time ∷ later) (edges-are (time + n) ns)

between-edges : (time : ℕ) (ticks : List ℕ) → ticks_between (edges_from time ticks) ≡ ticks
between-edges time ticks = ap ticks_between (edges-are time ticks) ∙ after-from time ticks

whole : (S : ScenarioContents) → IsValid S → (before : List Instr) (w : ℕ) (first : Instr) (during : List Instr) (last : Instr)
    → IsCarriedOut S (run S before) w first during last → ticks_burned S (state_after S (run S before) first) during w ≡ burns_of_body S w
unfolding BurnsItsBody
whole S valid before w first during last carried_out = burns_its_body S valid before w first during last carried_out

-- the row shows so many burns, if it is the work's
module _ (S : ScenarioContents) (instrs : List Instr) (span : Span) (fold : Bool) (w n : ℕ) (counted : count_by shows_burning (map (λ u. work_sign S u w) (columns S instrs span)) ≡ n) where
  abbrev drawn : List ColumnContents
  drawn = columns_drawn fold (stretches_of (ticks_told S instrs span))

  abbrev ticks : List ℕ
  ticks = ticks_drawn fold (stretches_of (ticks_told S instrs span))

  row-counted : (from : ℕ) (row : Title) → IsDeclaredRow S row → row ≡ title.Work (record { 0 = w })
      → count_by shows_burning (written_out (map (cell_shown S row) drawn) (ticks_between (edges_from from ticks))) ≡ n
  unfolding ShowsEachTick
  row-counted from row declared is =
      ap (λ (ns : List ℕ). count_by shows_burning (written_out (map (cell_shown S row) drawn) ns)) (between-edges from ticks)
      ∙ ap (count_by shows_burning) (shows_each_tick S instrs span fold row declared)
      ∙ ap (λ (x : Title). count_by shows_burning (map (λ s. cell S (told_of_tick S instrs s.time) x s) (columns S instrs span))) is
      ∙ marked-counted S (λ s. told_of_tick S instrs s.time) w (columns S instrs span) ∙ counted

pub shows_its_body : ShowsItsBody
unfolding ShowsItsBody
shows_its_body S valid before w first during last carried_out later fold works =
    let instrs : List Instr = before ++ first ∷ during ++ last ∷ later in
    let span = ticks_of S before first during in
    let states : List State = columns S instrs span in
    let s = run S before in
    let t = state_after S s first in
    let n = burns_of_body S w in
    let in_ticks : count_by shows_burning (map (λ u. work_sign S u w) (ticks_from S t during)) ≡ n = counted-during S t during w ∙ whole S valid before w first during last carried_out in
    let counted : count_by shows_burning (map (λ u. work_sign S u w) states) ≡ n =
    ap (λ (us : List State). count_by shows_burning (map (λ u. work_sign S u w) us)) (columns-during S before first during last later) ∙ in_ticks in
    let folded = is_folded S instrs (record { span = span; fold = fold; works = works }) in
    let from = from_time span.from in
    let columns_are = columns_drawn folded (stretches_of (ticks_told S instrs span)) in
    let edges = edges_from from (ticks_drawn folded (stretches_of (ticks_told S instrs span))) in
    let P = λ (r : RowContents). r.title ≡ title.Work (record { 0 = w }) → count_by shows_burning (written_out r.cells (ticks_between edges)) ≡ n in
    All-filter stands_in_picture P (map (cut S columns_are) (titles S works))
    (All-map P (cut S columns_are) (titles S works) (λ k d h. row-counted S instrs span folded w n counted from (slice_index_or (titles S works) k d) (row-declared S works k d h)))
