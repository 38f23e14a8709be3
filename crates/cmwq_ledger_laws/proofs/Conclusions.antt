-- The laws.
use Rattle.std.proofs.Common.{◌≡◌, ◌+◌, List, ◌++◌, subst}
use Rattle.std.proofs.lemmas.List.Elements.{All-append}
use Rattle.std.specs.List.{sum_by}
use Rattle.std.specs.Prelude.{count_by}
use Rattle.cmwq_types.specs.Contents.{ScenarioContents}
use Rattle.cmwq_types.specs.Faults.{IsValid}
use Rattle.cmwq_types.specs.declared.instr.Instr.{Instr}
use Rattle.cmwq_table.specs.State.{start}
use Rattle.cmwq_table.specs.Table.{run}
use Rattle.cmwq_ledger.specs.Books.{BooksContents, books_begun}
use Rattle.cmwq_ledger.specs.Contents.{LedgerContents}
use Rattle.cmwq_ledger.specs.Ledger.{empty_ledger, ledger_from, still_lines}
use Rattle.cmwq_ledger.specs.Totals.{totals_begun, totals_ended, totals_from}
use Rattle.cmwq_ledger_laws.specs.Laws.{AccountsForAllTime, BurnsAddUp, BurnsByQueue, CountsEnds, CountsStarts, FillsCpus, FitsBodies, InEveryRun, IsAccountedFor, KeepsAccountsOfInstances, TellsAllThatAreLeft, TellsEachRequest, TellsEndsInOrder, books_of_run, burned_by, burned_for, ended_lines, is_cancelled, is_finished, is_of_queue, is_since, left_lines, requests_from, running_of_queue}
use Rattle.cmwq_ledger_laws.proofs.Agreeing.{IsKept, run-kept, start-kept}
use Rattle.cmwq_ledger_laws.proofs.BooksLemmas.{books-are}
use Rattle.cmwq_ledger_laws.proofs.BurnLemmas.{all_burned, all_of, run-pools, run-queues}
use Rattle.cmwq_ledger_laws.proofs.CpuLemmas.{IsFilled, all-filled, start-filled}
use Rattle.cmwq_ledger_laws.proofs.Ending.{run-ends}
use Rattle.cmwq_ledger_laws.proofs.InOrder.{ends-in-order}
use Rattle.cmwq_ledger_laws.proofs.Leaving.{left-long, left-of}
use Rattle.cmwq_ledger_laws.proofs.OnTime.{AreOnTime, all-on-time, start-on-time, still-on-time}
use Rattle.cmwq_ledger_laws.proofs.QueueBurns.{run-at}
use Rattle.cmwq_ledger_laws.proofs.RequestLemmas.{run-since}
use Rattle.cmwq_ledger_laws.proofs.Spending.{AreSpent, Fits, all-spent, start-spent, still-fit}
use Rattle.cmwq_ledger_laws.proofs.Starting.{run-adds}
use Rattle.cmwq_ledger_laws.proofs.TotalsLemmas.{total_at}

module _ (S : ScenarioContents) (instrs : List Instr) where
  abbrev E : LedgerContents
  E = ledger_from S (empty_ledger S) (start S) instrs

  -- what holds of the ledger and the totals of the run holds of its books
  of-books : (P : BooksContents → Type 0) → P (record { ledger = E; totals = totals_from S (empty_ledger S) (totals_begun S) (start S) instrs }) → P (books_of_run S instrs)
  of-books P h = subst P (books-are S (books_begun S) (start S) instrs) h

  books-kept : IsValid S → IsKept S (run S instrs) (books_of_run S instrs).ledger
  books-kept valid = of-books (λ B. IsKept S (run S instrs) B.ledger) (run-kept S instrs valid)

pub keeps_accounts_of_instances : InEveryRun KeepsAccountsOfInstances
unfolding KeepsAccountsOfInstances
keeps_accounts_of_instances S valid instrs w = let kept = books-kept S instrs valid in (kept.pending w, kept.running w)

pub accounts_for_all_time : InEveryRun AccountsForAllTime
unfolding AccountsForAllTime
accounts_for_all_time S valid instrs =
    let all = all-on-time S (start S) (empty_ledger S) instrs (start-kept S valid) (start-on-time S) in
    let on_time : AreOnTime (run S instrs) (books_of_run S instrs).ledger = of-books S instrs (λ B. AreOnTime (run S instrs) B.ledger) all.0 in
    All-append IsAccountedFor (ended_lines S instrs) (left_lines S instrs) all.1 (still-on-time S (run S instrs) (books_of_run S instrs).ledger on_time)

pub tells_ends_in_order : InEveryRun TellsEndsInOrder
unfolding TellsEndsInOrder
tells_ends_in_order S valid instrs = ends-in-order S (empty_ledger S) (start S) instrs

pub fits_bodies : InEveryRun FitsBodies
unfolding FitsBodies
fits_bodies S valid instrs =
    let all = all-spent S valid (start S) (empty_ledger S) instrs (start-kept S valid) (start-spent S) in
    let spent : AreSpent S (run S instrs) (books_of_run S instrs).ledger = of-books S instrs (λ B. AreSpent S (run S instrs) B.ledger) all.0 in
    All-append (Fits S) (ended_lines S instrs) (left_lines S instrs) all.1 (still-fit S (run S instrs) (books_of_run S instrs).ledger spent)

pub counts_starts : InEveryRun CountsStarts
unfolding CountsStarts
counts_starts S valid instrs queue there =
    of-books S instrs (λ B. (total_at (totals_ended S (left_lines S instrs) B.totals).queues queue).started
    ≡ (total_at (totals_ended S (left_lines S instrs) B.totals).queues queue).finished + running_of_queue S (run S instrs) queue)
    (run-adds S (empty_ledger S) instrs (left_lines S instrs) queue (start-kept S valid) there)

pub counts_ends : InEveryRun CountsEnds
unfolding CountsEnds
counts_ends S valid instrs queue there =
    of-books S instrs (λ B. (count_by (is_of_queue is_finished S queue) (ended_lines S instrs) ≡ (total_at (totals_ended S (left_lines S instrs) B.totals).queues queue).finished)
    × (count_by (is_of_queue is_cancelled S queue) (ended_lines S instrs) ≡ (total_at (totals_ended S (left_lines S instrs) B.totals).queues queue).cancelled))
    (run-ends S queue (empty_ledger S) instrs (left_lines S instrs) (start-kept S valid) there)

pub tells_all_that_are_left : InEveryRun TellsAllThatAreLeft
unfolding TellsAllThatAreLeft
tells_all_that_are_left S valid instrs =
    let kept = books-kept S instrs valid in
    (left-long S (run S instrs) (books_of_run S instrs).ledger kept, λ queue. left-of S (run S instrs) (books_of_run S instrs).ledger queue kept)

pub burns_add_up : InEveryRun BurnsAddUp
unfolding BurnsAddUp
burns_add_up S valid instrs =
    let kept = start-kept S valid in
    let end = run-kept S instrs valid in
    of-books S instrs (λ B.
    (sum_by burned_by (ended_lines S instrs ++ still_lines S B.ledger (run S instrs)) ≡ all_of (totals_ended S (still_lines S B.ledger (run S instrs)) B.totals).pools)
    × (sum_by burned_by (ended_lines S instrs ++ still_lines S B.ledger (run S instrs)) ≡ all_burned (totals_ended S (still_lines S B.ledger (run S instrs)) B.totals).queues))
    (run-pools S instrs kept end, run-queues S instrs kept end)

pub burns_by_queue : InEveryRun BurnsByQueue
unfolding BurnsByQueue
burns_by_queue S valid instrs queue there =
    of-books S instrs (λ B. sum_by (burned_for S queue) (ended_lines S instrs ++ still_lines S B.ledger (run S instrs))
    ≡ (total_at (totals_ended S (still_lines S B.ledger (run S instrs)) B.totals).queues queue).burned)
    (run-at S queue there instrs (start-kept S valid) (run-kept S instrs valid))

pub fills_cpus : InEveryRun FillsCpus
unfolding FillsCpus
fills_cpus S valid instrs cpu there =
    let filled : IsFilled S (run S instrs) (books_of_run S instrs).totals =
    of-books S instrs (λ B. IsFilled S (run S instrs) B.totals) (all-filled S (start S) (empty_ledger S) (totals_begun S) instrs (start-filled S)) in
    filled.time cpu there

pub tells_each_request : InEveryRun TellsEachRequest
unfolding TellsEachRequest
tells_each_request S valid instrs w time =
    of-books S instrs (λ B. count_by (is_since w time) (ended_lines S instrs ++ still_lines S B.ledger (run S instrs)) ≡ requests_from S (start S) instrs w time)
    (run-since w time S instrs (start-kept S valid) (run-kept S instrs valid))
