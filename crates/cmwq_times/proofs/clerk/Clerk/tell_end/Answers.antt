use Rattle.std.proofs.Common.{◌≡◌, ◌*◌, ◌≤◌, ◌^◌, ◌++◌, List, ap, arith, refl, subst, sym, ◌∙◌}
use Rattle.std.proofs.lemmas.Result.{err_from_is_err_and}
use Rattle.cmwq_types.specs.Contents.{ScenarioContents}
use Rattle.cmwq_play.proofs.TellerLemmas.{stopped_at_once, wrote_once}
use Rattle.cmwq_ledger.specs.Books.{BooksContents, books_ended}
use Rattle.cmwq_ledger.specs.Bounds.{AreTotalsWithin}
use Rattle.cmwq_ledger.specs.Ledger.{still_lines}
use Rattle.cmwq_ledger.specs.declared.times_line.TimesLine.{TimesLine}
use Rattle.cmwq_ledger.proofs.BoundLemmas.{totals-up}
use Rattle.cmwq_ledger.proofs.RoomLemmas.{ended-within}
use Rattle.cmwq_times.specs.Clerking.{clerk_ends}
use Rattle.cmwq_times.specs.TimesText.{line_rows, sums_rows, whom_rows_if}
use Rattle.cmwq_times.proofs.clerk.Clerk.tell_end.Goals as goal

pub returns-in_err-lines : goal.returns-in_err-lines
returns-in_err-lines g c =
    let a = c.args.session.now in
    let p = err_from_is_err_and c.from_residual.result c.from_residual.ensures.1 in
    record { told = rw (p.1, p.2) (stopped_at_once g.M.Reads.loaded g.M.Reads.state g.W.Write.contents g.W.Sink.failed a a (clerk_ends c.args.self.now a.scenario.now (g.M.Reads.state a.machine)) _ c.requires.ready.is_sound refl refl) }

pub invariant_of-sums : goal.invariant_of-sums
invariant_of-sums g c =
    let a = c.args.session.now in
    let s = g.M.Reads.state a.machine in
    let S = g.M.Reads.loaded a.machine in
    let B = c.args.self.now.books in
    let few : 512 * s.spent ≤ 2 ^ 62 = omega (arith, c.spent-spent.ensures, c.spent-spent.type_inv) in
    subst (λ (after : BooksContents). AreTotalsWithin (2 ^ 62) after.totals) (sym c.in_ok-lines.ensures.ended)
    (ended-within (2 ^ 62) S (still_lines S B.ledger s) B.totals (totals-up (512 * s.spent) (2 ^ 62) B.totals few c.requires.fits.books.totals))

pub returns : goal.returns
returns g c =
    let a = c.args.session.now in
    let s = g.M.Reads.state a.machine in
    let L = g.M.Reads.loaded a.machine in
    let S = a.scenario.now in
    let f = c.args.self.now.asked.format in
    let B = c.args.self.now.books in
    let rows = whom_rows_if f S c.args.self.now.blame in
    let written = line_rows f S c.deref.result.now ++ (rows ++ sums_rows f L c.close.new.self.totals s) in
    let lines : c.deref.result.now ≡ still_lines L B.ledger s = c.deref.ensures.value ∙ c.in_ok-lines.ensures.lines in
    let is : written ≡ clerk_ends c.args.self.now S s =
    ap (λ (lines : List TimesLine). line_rows f S lines ++ (rows ++ sums_rows f L c.close.new.self.totals s)) lines
    ∙ ap (λ (after : BooksContents). line_rows f S (still_lines L B.ledger s) ++ (rows ++ sums_rows f L after.totals s)) c.in_ok-lines.ensures.ended
    ∙ ap (λ (T : ScenarioContents). line_rows f S (still_lines T B.ledger s) ++ (rows ++ sums_rows f T (books_ended T B s).totals s)) c.requires.ready.has_scenario in
    let out = c.write.ensures in
    record {
      told =
          wrote_once g.M.Reads.loaded g.M.Reads.state g.W.Write.contents g.W.Sink.failed a (record a { lines = c.write.new.self }) s written (clerk_ends c.args.self.now S s) c.write.result
          c.requires.ready.has_scenario c.requires.ready.has_lines refl refl is out.same out.ok out.err out.failed out.why;
    }
