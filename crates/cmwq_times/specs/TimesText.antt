-- What is told of where the time of a run's instances went: a line each, then for whom works waited, if that is asked for, then sums; as
-- text or as JSON lines.
use Rattle.std.specs.Prelude.{ℕ, zero, suc, ◌+◌, ◌*◌, Bool, List, [], ◌++◌, Option, Some, None, codes, length, slice_index_or, if◌then◌else◌, ◌==◌}
use Rattle.std.specs.Fmt.{decimal}
use Rattle.std.specs.List.{flat_map}
use Rattle.cmwq_types.specs.Contents.{ScenarioContents}
use Rattle.cmwq_types.specs.Scenario.{queue_at}
use Rattle.cmwq_types.specs.declared.instr.Instr.{Instr}
use Rattle.cmwq_types.specs.declared.reply.Place.{Place}
use Rattle.cmwq_types.specs.declared.reply.Place.TheVariants.{Timer, Inactive, Listed, Deferred}
use Rattle.cmwq_table.specs.Events.{work_name}
use Rattle.cmwq_table.specs.State.{State, start}
use Rattle.cmwq_table.specs.Table.{run}
use Rattle.cmwq_blame.specs.Blame.{BlameContents, blame_from, no_blame, waited}
use Rattle.cmwq_ledger.specs.Books.{BooksContents, books_begun, books_ended, books_from}
use Rattle.cmwq_ledger.specs.Contents.{TotalsContents}
use Rattle.cmwq_ledger.specs.Ledger.{empty_ledger, lines_from, still_lines}
use Rattle.cmwq_ledger.specs.Totals.{active_everywhere, burned_on, nothing_counted}
use Rattle.cmwq_ledger.specs.declared.account.Ticks.{Ticks}
use Rattle.cmwq_ledger.specs.declared.queue_totals.QueueTotals.{QueueTotals}
use Rattle.cmwq_ledger.specs.declared.times_line.Fate.{Fate}
use Rattle.cmwq_ledger.specs.declared.times_line.Fate.TheVariants.{Finished, Cancelled, StillPending, StillRunning}
use Rattle.cmwq_ledger.specs.declared.times_line.TimesLine.{TimesLine}
use Rattle.cmwq_reports.specs.declared.report.Format.{Format}
use Rattle.cmwq_reports.specs.declared.report.Format.TheVariants.{Text, Json}
use Rattle.cmwq_reports.specs.declared.report.Times.{Times}

-- Lines.

-- where a work is still pending
abbrev pub place_word : Place → List ℕ
place_word (Timer due cpu) = codes "timer"
place_word (Inactive pool) = codes "inactive"
place_word (Listed pool) = codes "listed"
place_word (Deferred pool) = codes "deferred"

abbrev pub fate_words : Format → Fate → List ℕ
fate_words Text Finished = codes "finished"
fate_words Text Cancelled = codes "cancelled"
fate_words Text (StillPending place) = codes "still " ++ place_word place
fate_words Text StillRunning = codes "still running"
fate_words Json Finished = codes "\"end\":\"finished\""
fate_words Json Cancelled = codes "\"end\":\"cancelled\""
fate_words Json (StillPending place) = codes "\"end\":\"still\",\"state\":\"" ++ (place_word place ++ codes "\"")
fate_words Json StillRunning = codes "\"end\":\"still\",\"state\":\"running\""

-- what it did while it was pending, and while it ran
abbrev pub ticks_pending : Format → Ticks → List ℕ
ticks_pending Text t =
    codes "timer " ++ (decimal t.timer ++ (codes " inactive " ++ (decimal t.inactive ++ (codes " listed " ++
    (decimal t.listed ++ (codes " deferred " ++ decimal t.deferred))))))
ticks_pending Json t =
    codes "\"timer\":" ++ (decimal t.timer ++ (codes ",\"inactive\":" ++ (decimal t.inactive ++ (codes ",\"listed\":" ++
    (decimal t.listed ++ (codes ",\"deferred\":" ++ decimal t.deferred))))))

abbrev pub ticks_running : Format → Ticks → List ℕ
ticks_running Text t =
    codes "ready " ++ (decimal t.ready ++ (codes " burned " ++ (decimal t.burned ++ (codes " slept " ++ decimal t.slept))))
ticks_running Json t =
    codes "\"ready\":" ++ (decimal t.ready ++ (codes ",\"burned\":" ++ (decimal t.burned ++ (codes ",\"slept\":" ++
    decimal t.slept))))

-- the line of an instance
abbrev pub line_row : Format → ScenarioContents → TimesLine → List ℕ
line_row Text S line =
    decimal line.time ++ (codes " " ++ (work_name S line.work ++ (codes " " ++ (fate_words Text line.fate ++ (codes " since " ++
    (decimal line.account.since ++ (codes " " ++ (ticks_pending Text line.account.ticks ++ (codes " " ++
    (ticks_running Text line.account.ticks ++ codes "\n"))))))))))
line_row Json S line =
    codes "{\"now\":" ++ (decimal line.time ++ (codes ",\"work\":\"" ++ (work_name S line.work ++ (codes "\"," ++
    (fate_words Json line.fate ++ (codes ",\"since\":" ++ (decimal line.account.since ++ (codes "," ++
    (ticks_pending Json line.account.ticks ++ (codes "," ++ (ticks_running Json line.account.ticks ++ codes "}\n")))))))))))

abbrev pub line_rows : Format → ScenarioContents → List TimesLine → List ℕ
line_rows format S lines = flat_map (line_row format S) lines

-- Rows one after another.

-- the rows of the numbers below n
abbrev pub rows_below : (ℕ → List ℕ) → ℕ → List ℕ
rows_below row zero = []
rows_below row (suc n) = rows_below row n ++ row n

-- For whom works waited.

-- the other work, or nobody
abbrev pub other_words : Format → ScenarioContents → Option ℕ → List ℕ
other_words Text S (Some v) = work_name S (record { 0 = v })
other_words Text S None = codes "-"
other_words Json S (Some v) = codes "\"" ++ (work_name S (record { 0 = v }) ++ codes "\"")
other_words Json S None = codes "null"

abbrev pub whom_row : Format → ScenarioContents → (work : ℕ) → (other : Option ℕ) → (waited : ℕ) → List ℕ
whom_row Text S work other waited =
    work_name S (record { 0 = work }) ++ (codes " waited " ++ (decimal waited ++ (codes " for " ++ (other_words Text S other ++
    codes "\n"))))
whom_row Json S work other waited =
    codes "{\"work\":\"" ++ (work_name S (record { 0 = work }) ++ (codes "\",\"waited\":" ++ (decimal waited ++ (codes ",\"for\":" ++
    (other_words Json S other ++ codes "}\n")))))

-- there is no row where it didn't wait
abbrev pub whom_row_if : Format → ScenarioContents → (work : ℕ) → (other : Option ℕ) → (waited : ℕ) → List ℕ
whom_row_if format S work other waited = if waited == 0 then [] else whom_row format S work other waited

-- of the work for nobody, then for the works by number
abbrev pub whom_of : Format → ScenarioContents → BlameContents → ℕ → List ℕ
whom_of format S B work =
    whom_row_if format S work None (waited B work None)
    ++ rows_below (λ other. whom_row_if format S work (Some other) (waited B work (Some other))) (length S.works)

abbrev pub whom_rows : Format → ScenarioContents → BlameContents → List ℕ
whom_rows format S B = rows_below (whom_of format S B) (length S.works)

-- if it is told
abbrev pub whom_rows_if : Format → ScenarioContents → Option BlameContents → List ℕ
whom_rows_if format S (Some B) = whom_rows format S B
whom_rows_if format S None = []

-- Sums.

abbrev pub queue_instances : Format → QueueTotals → List ℕ
queue_instances Text t =
    codes "started " ++ (decimal t.started ++ (codes " finished " ++ (decimal t.finished ++ (codes " cancelled " ++
    (decimal t.cancelled ++ (codes " rescued " ++ decimal t.rescued))))))
queue_instances Json t =
    codes "\"started\":" ++ (decimal t.started ++ (codes ",\"finished\":" ++ (decimal t.finished ++ (codes ",\"cancelled\":" ++
    (decimal t.cancelled ++ (codes ",\"rescued\":" ++ decimal t.rescued))))))

abbrev pub queue_load : Format → QueueTotals → (active : ℕ) → List ℕ
queue_load Text t active =
    codes "burned " ++ (decimal t.burned ++ (codes " active " ++ (decimal active ++ (codes " most " ++ (decimal t.most ++
    (codes " longest " ++ decimal t.longest))))))
queue_load Json t active =
    codes "\"burned\":" ++ (decimal t.burned ++ (codes ",\"active\":" ++ (decimal active ++ (codes ",\"most\":" ++
    (decimal t.most ++ (codes ",\"longest\":" ++ decimal t.longest))))))

abbrev pub queue_row : Format → (name : List ℕ) → QueueTotals → (active : ℕ) → List ℕ
queue_row Text name t active =
    codes "queue " ++ (name ++ (codes " " ++ (queue_instances Text t ++ (codes " " ++ (queue_load Text t active ++
    codes "\n")))))
queue_row Json name t active =
    codes "{\"queue\":\"" ++ (name ++ (codes "\"," ++ (queue_instances Json t ++ (codes "," ++ (queue_load Json t active ++
    codes "}\n")))))

abbrev pub cpu_row : Format → (cpu burned idle : ℕ) → List ℕ
cpu_row Text cpu burned idle =
    codes "cpu " ++ (decimal cpu ++ (codes " burned " ++ (decimal burned ++ (codes " idle " ++ (decimal idle ++ codes "\n")))))
cpu_row Json cpu burned idle =
    codes "{\"cpu\":" ++ (decimal cpu ++ (codes ",\"burned\":" ++ (decimal burned ++ (codes ",\"idle\":" ++ (decimal idle ++
    codes "}\n")))))

abbrev pub pool_row : Format → (pool burned : ℕ) → List ℕ
pool_row Text pool burned = codes "pool " ++ (decimal pool ++ (codes " burned " ++ (decimal burned ++ codes "\n")))
pool_row Json pool burned = codes "{\"pool\":" ++ (decimal pool ++ (codes ",\"burned\":" ++ (decimal burned ++ codes "}\n")))

abbrev pub now_row : Format → (now spent : ℕ) → List ℕ
now_row Text now spent = codes "now " ++ (decimal now ++ (codes " spent " ++ (decimal spent ++ codes "\n")))
now_row Json now spent = codes "{\"now\":" ++ (decimal now ++ (codes ",\"spent\":" ++ (decimal spent ++ codes "}\n")))

-- of the queue of this number
abbrev pub queue_sum : Format → ScenarioContents → TotalsContents → State → ℕ → List ℕ
queue_sum format S T s queue =
    queue_row format (queue_at S queue).name (slice_index_or T.queues queue nothing_counted) (active_everywhere S s queue)

abbrev pub cpu_sum : Format → TotalsContents → ℕ → List ℕ
cpu_sum format T cpu = cpu_row format cpu (burned_on T cpu) (slice_index_or T.idle cpu 0)

abbrev pub pool_sum : Format → TotalsContents → ℕ → List ℕ
pool_sum format T pool = pool_row format pool (slice_index_or T.pools pool 0)

-- of each queue, of each CPU, and of the normal and the high unbound pool
abbrev pub sums_rows : Format → ScenarioContents → TotalsContents → State → List ℕ
sums_rows format S T s =
    rows_below (queue_sum format S T s) (length S.queues) ++ (rows_below (cpu_sum format T) S.cpus ++
    (pool_sum format T (2 * S.cpus) ++ (pool_sum format T (2 * S.cpus + 1) ++ now_row format s.time s.spent)))

-- The whole.

-- what is told at the end of a run: of those that are still there, for whom works waited, and of all
abbrev pub end_rows : Format → ScenarioContents → BooksContents → Option BlameContents → State → List ℕ
end_rows format S B blame s =
    line_rows format S (still_lines S B.ledger s) ++ (whom_rows_if format S blame ++ sums_rows format S (books_ended S B s).totals s)

-- what is counted, if it is asked for
abbrev pub blame_if : Bool → BlameContents → Option BlameContents
blame_if whom B = if whom then Some B else None

-- what is told of a run
abbrev pub times_text : Times → ScenarioContents → List Instr → List ℕ
times_text asked S instrs =
    line_rows asked.format S (lines_from S (empty_ledger S) (start S) instrs) ++
    end_rows asked.format S (books_from S (books_begun S) (start S) instrs) (blame_if asked.whom (blame_from S (no_blame S) (start S) instrs))
    (run S instrs)
