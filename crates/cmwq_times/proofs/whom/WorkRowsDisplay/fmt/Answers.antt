use Rattle.std.proofs.Common.{◌≡◌, ◌∙◌, ◌+◌, ◌++◌, List, None, Option, Some, ℕ, ap, arith, refl, suc}
use Rattle.std.proofs.lemmas.Grind.{put_two}
use Rattle.std.proofs.lemmas.List.{append_assoc}
use Rattle.cmwq_types.specs.Contents.{ScenarioContents}
use Rattle.cmwq_blame.specs.Blame.{waited}
use Rattle.cmwq_reports.specs.declared.report.Format.{Format}
use Rattle.cmwq_times.specs.TimesText.{rows_below, whom_row_if}
use Rattle.cmwq_times.proofs.whom.WorkRowsDisplay.fmt.Goals as goal

same-row : (f g : Format) (S T : ScenarioContents) (v w : ℕ) (o p : Option ℕ) (m n : ℕ) → f ≡ g → S ≡ T → v ≡ w → o ≡ p → m ≡ n → whom_row_if f S v o m ≡ whom_row_if g T w p n
same-row f g S T v w o p m n a b c d e = rw (a, b, c, d, e) refl

pub loop-other-preserved : goal.loop-other-preserved
loop-other-preserved g c = λ plain.
    let f = c.args.self.now.format in
    let S = c.args.self.now.scenario.now in
    let B = c.args.self.now.blame.now in
    let w = c.args.self.now.work in
    let row = λ (other : ℕ). whom_row_if f S w (Some other) (waited B w (Some other)) in
    let first = whom_row_if f S w None (waited B w None) in
    let other = c.loop-other.other in
    let before = c.loop-other.invariant plain in
    let here = c.row-row.result in
    let text = whom_row_if here.format here.scenario.now here.work here.other here.waited in
    let e = c.row-row.ensures in
    let next : suc other ≡ other + 1 = omega arith in
    let more : rows_below row other ++ text ≡ rows_below row (other + 1) =
    ap (λ (r : List ℕ). rows_below row other ++ r) (same-row here.format f here.scenario.now S here.work w here.other (Some other) here.waited (waited B w (Some other)) e.format e.scenario e.work e.other e.waited)
    ∙ ap (rows_below row) next in
    let same : (first ++ rows_below row other) ++ text ≡ first ++ rows_below row (other + 1) =
    append_assoc first (rows_below row other) text ∙ ap (λ (r : List ℕ). first ++ r) more in
    put_two g.W.Write.write_str_gives c.args.f.now c.loop-other.f c.write-in-loop-other.new.self (first ++ rows_below row other) text (first ++ rows_below row (other + 1)) before
    (c.in_ok-write-2.ensures.writes before.plain refl) same
