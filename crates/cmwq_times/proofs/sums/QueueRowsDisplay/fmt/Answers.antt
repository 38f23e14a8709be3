use Rattle.std.proofs.Common.{◌≡◌, ◌+◌, ◌++◌, List, ℕ, add-one, ap, refl}
use Rattle.std.proofs.lemmas.Grind.{put_two}
use Rattle.cmwq_ledger.specs.declared.queue_totals.QueueTotals.{QueueTotals}
use Rattle.cmwq_times.specs.TimesText.{queue_row, queue_sum, rows_below}
use Rattle.cmwq_reports.specs.declared.report.Format.{Format}
use Rattle.cmwq_times.proofs.sums.QueueRowsDisplay.fmt.Goals as goal

same-row : (f g : Format) (m n : List ℕ) (t u : QueueTotals) (a b : ℕ) → f ≡ g → m ≡ n → t ≡ u → a ≡ b → queue_row f m t a ≡ queue_row g n u b
same-row f g m n t u a b p q r s = rw (p, q, r, s) refl

pub loop-queue-preserved : goal.loop-queue-preserved
loop-queue-preserved g c = λ plain.
    let sums = c.args.self.now.0.now in
    let row = queue_sum sums.format sums.scenario sums.totals sums.state in
    let queue = c.loop-queue.queue in
    let before = c.loop-queue.invariant plain in
    let here = c.queue_row-row.result in
    let e = c.queue_row-row.ensures in
    let same : rows_below row queue ++ queue_row here.format here.name.now here.totals here.active ≡ rows_below row (queue + 1) =
    rw add-one (ap (λ (r : List ℕ). rows_below row queue ++ r) (same-row _ _ _ _ _ _ _ _ e.format e.name e.totals e.active)) in
    put_two g.W.Write.write_str_gives c.args.f.now c.loop-queue.f c.write.new.self (rows_below row queue) (queue_row here.format here.name.now here.totals here.active) (rows_below row (queue + 1)) before (c.in_ok-write.ensures.writes before.plain refl) same
