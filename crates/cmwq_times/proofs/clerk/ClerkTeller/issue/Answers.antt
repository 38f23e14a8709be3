use Rattle.std.proofs.Common.{◌≡◌, ◌*◌, Option, ap, refl, subst, sym, ◌∙◌}
use Rattle.std.specs.Prelude.{option_to_list}
use Rattle.cmwq_types.specs.Contents.{ScenarioContents}
use Rattle.cmwq_table.specs.State.{State}
use Rattle.cmwq_table.specs.Table.{table}
use Rattle.cmwq_types.specs.declared.reply.Reply.{Reply}
use Rattle.cmwq_blame.specs.Blame.{BlameContents}
use Rattle.cmwq_ledger.specs.Books.{BooksContents, books_after}
use Rattle.cmwq_ledger.specs.Bounds.{AreBooksWithin}
use Rattle.cmwq_ledger.specs.Ledger.{lines_ending_at}
use Rattle.cmwq_ledger.proofs.RoomLemmas.{books-within}
use Rattle.cmwq_times.proofs.ClerkLemmas.{kept-within, on-ok}
use Rattle.cmwq_play.proofs.TellerLemmas.{wrote_once}
use Rattle.cmwq_times.specs.Clerking.{IsBlameIfWithin, blame_kept, clerk_tells}
use Rattle.cmwq_times.specs.TimesText.{line_rows}
use Rattle.cmwq_times.proofs.clerk.ClerkTeller.issue.Goals as goal

pub returns-clause-fits : goal.returns-clause-fits
returns-clause-fits g c =
    let a = c.args.session.now in
    let s = g.M.Reads.state a.machine in
    let t = g.M.Reads.state c.exec-reply.new.self in
    let S = g.M.Reads.loaded a.machine in
    let i = c.args.instr in
    let B = c.args.self.now.books in
    let exact : (t, c.exec-reply.result) ≡ table S s i = c.exec-reply.ensures.exact in
    let here : (t, c.exec-reply.result) ≡ table (g.M.Reads.loaded c.exec-reply.new.self) s i = exact ∙ ap (λ (T : ScenarioContents). table T s i) (sym c.exec-reply.ensures.scenario) in
    let books : c.record-line.new.self ≡ books_after S B s i =
    c.record-line.ensures.recorded s c.time-time.ensures here ∙ ap (λ (T : ScenarioContents). books_after T B s i) c.exec-reply.ensures.scenario in
    let within : AreBooksWithin (512 * (table S s i).0.spent) (books_after S B s i) = books-within S B s i c.scenario-scenario.ensures.setting c.requires.fits.books in
    let kept = blame_kept S c.args.self.now.blame s i in
    let counted : c.record_blame.new.blame ≡ kept = c.record_blame.ensures in
    let blame : IsBlameIfWithin (512 * (table S s i).0.spent) kept = kept-within S c.args.self.now.blame s i c.scenario-scenario.ensures.setting c.requires.fits.blame in
    on-ok c.write_ended.result (record {
      books =
          subst (λ (after : BooksContents). AreBooksWithin (512 * t.spent) after) (sym books)
          (subst (λ (after : State × Reply). AreBooksWithin (512 * after.0.spent) (books_after S B s i)) (sym exact) within);
      blame =
          subst (λ (after : Option BlameContents). IsBlameIfWithin (512 * t.spent) after) (sym counted)
          (subst (λ (after : State × Reply). IsBlameIfWithin (512 * after.0.spent) kept) (sym exact) blame);
    })

pub returns-clause-told : goal.returns-clause-told
returns-clause-told g c =
    let a = c.args.session.now in
    let s = g.M.Reads.state a.machine in
    let S = g.M.Reads.loaded a.machine in
    let i = c.args.instr in
    let clerk = c.args.self.now in
    let new = record a { machine = c.exec-reply.new.self; lines = c.write_ended.new.lines } in
    let exact : (g.M.Reads.state new.machine, c.exec-reply.result) ≡ table S s i = c.exec-reply.ensures.exact in
    let here : (g.M.Reads.state new.machine, c.exec-reply.result) ≡ table (g.M.Reads.loaded new.machine) s i = exact ∙ ap (λ (T : ScenarioContents). table T s i) (sym c.exec-reply.ensures.scenario) in
    let ended : option_to_list c.record-line.result ≡ lines_ending_at S clerk.books.ledger s i =
    c.record-line.ensures.line s c.time-time.ensures here ∙ ap (λ (T : ScenarioContents). lines_ending_at T clerk.books.ledger s i) c.exec-reply.ensures.scenario in
    let loaded : S ≡ a.scenario.now = c.requires.ready.has_scenario in
    let rows : line_rows clerk.asked.format a.scenario.now (option_to_list c.record-line.result) ≡ clerk_tells clerk a.scenario.now s i =
    ap (line_rows clerk.asked.format a.scenario.now) (ended ∙ ap (λ (T : ScenarioContents). lines_ending_at T clerk.books.ledger s i) loaded) in
    let reached : g.M.Reads.state new.machine ≡ (table a.scenario.now s i).0 =
    ap (λ (after : State × Reply). after.0) exact ∙ ap (λ (T : ScenarioContents). (table T s i).0) loaded in
    wrote_once g.M.Reads.loaded g.M.Reads.state g.W.Write.contents g.W.Sink.failed a new (table a.scenario.now s i).0
    (line_rows clerk.asked.format a.scenario.now (option_to_list c.record-line.result)) (clerk_tells clerk a.scenario.now s i) c.write_ended.result (c.exec-reply.ensures.scenario ∙ loaded) c.requires.ready.has_lines refl
    reached rows c.write_ended.ensures.same c.write_ended.ensures.ok c.write_ended.ensures.err c.write_ended.ensures.failed c.write_ended.ensures.why
