use Rattle.std.proofs.Common.{◌≡◌, ◌*◌, Option, ap, rules, subst, sym, ◌∙◌}
use Rattle.cmwq_table.specs.State.{State}
use Rattle.cmwq_types.specs.Scenario.{expand_lines}
use Rattle.cmwq_play.proofs.CommandLemmas.{writes_more, writes_moved}
use Rattle.cmwq_blame.specs.Blame.{BlameContents, no_blame}
use Rattle.cmwq_blame.proofs.BoundLemmas as blame
use Rattle.cmwq_ledger.specs.Books.{BooksContents}
use Rattle.cmwq_ledger.specs.Bounds.{AreBooksWithin}
use Rattle.cmwq_ledger.proofs.RoomLemmas.{begun-within}
use Rattle.cmwq_times.specs.Clerking.{IsBlameIfWithin, IsWithin, clerk_told}
use Rattle.cmwq_times.specs.TimesText.{times_text}
use Rattle.cmwq_times.proofs.ClerkLemmas.{if-within, told-is}
use Rattle.cmwq_times.proofs.timing.time_actor.Goals as goal

pub tell-outcome-requires-clause-fits : goal.tell-outcome-requires-clause-fits
tell-outcome-requires-clause-fits g c =
    let S = c.args.scenario.now in
    let books = subst (λ (B : BooksContents). AreBooksWithin 0 B) (sym c.requires.begun) (begun-within S) in
    let blame = subst (λ (o : Option BlameContents). IsBlameIfWithin 0 o) (sym c.requires.blame) (if-within c.args.clerk.now.asked.whom 0 (no_blame S) (blame.begun-within S)) in
    subst (λ (s : State). IsWithin (512 * s.spent) c.args.clerk.now) (sym c.requires.start) (record { books = books; blame = blame })

pub returns-clause-writes : goal.returns-clause-writes
returns-clause-writes g c =
    let S = c.args.scenario.now in
    let k = c.args.clerk.now in
    let instrs = expand_lines c.args.lines.now in
    writes_more (λ output. output ≡ clerk_told k S (g.M.Reads.state c.args.machine) instrs) (λ output. output ≡ times_text k.asked S instrs)
    (g.W.Write.contents c.args.writer.now) _ _ c.tell-outcome.result
    (λ output is. is ∙ ap (λ (s : State). clerk_told k S s instrs) c.requires.start ∙ told-is k S instrs c.requires.begun c.requires.blame)
    (writes_moved (ap g.W.Write.contents c.new-2.ensures.writer) (search rules) (search rules) c.tell-outcome.ensures.writes)
