-- Where the time of each instance went: since when it is there, and for how many ticks it did what.
use Rattle.std.specs.Prelude.{ℕ, ◌+◌, Bool, true, false, List, [], ◌∷◌, ◌++◌, length, replicate, Option, Some, None, if◌then◌else◌, nat_lt, nat_le, slice_index_or, slice_set}
use Rattle.std.specs.List.{flat_map}
use Rattle.cmwq_types.specs.Contents.{ScenarioContents}
use Rattle.cmwq_types.specs.declared.instr.Instr.{Instr}
use Rattle.cmwq_types.specs.declared.reply.Reply.{Reply}
use Rattle.cmwq_table.specs.State.{State, pending_at, running_at}
use Rattle.cmwq_table.specs.Table.{table}
use Rattle.cmwq_table.specs.declared.state.Pending.{Pending}
use Rattle.cmwq_table.specs.declared.state.Running.{Running}
use Rattle.cmwq_table.specs.Told.{cancelled_by, finished_by, started_by}
use Rattle.cmwq_picture.specs.Picture.{below, place_sign, run_sign}
use Rattle.cmwq_picture.specs.declared.cell.Sign.{Sign}
use Rattle.cmwq_picture.specs.declared.cell.Sign.TheVariants as sign
use Rattle.cmwq_ledger.specs.Contents.{LedgerContents}
use Rattle.cmwq_ledger.specs.declared.account.Account.{Account}
use Rattle.cmwq_ledger.specs.declared.account.Ticks.{Ticks}
use Rattle.cmwq_ledger.specs.declared.times_line.Fate.{Fate}
use Rattle.cmwq_ledger.specs.declared.times_line.Fate.TheVariants.{Finished, Cancelled, StillPending, StillRunning}
use Rattle.cmwq_ledger.specs.declared.times_line.TimesLine.{TimesLine}

-- Accounts.

abbrev pub no_ticks : Ticks
no_ticks = record { timer = 0; inactive = 0; listed = 0; deferred = 0; ready = 0; burned = 0; slept = 0 }

-- the account of an instance that is asked for now
abbrev pub new_account : ℕ → Account
new_account time = record { since = time; ticks = no_ticks }

-- one tick more of what is done in it
abbrev pub one_tick_more : Sign → Ticks → Ticks
one_tick_more sign.Timed t = record t { timer = t.timer + 1 }
one_tick_more sign.Inactive t = record t { inactive = t.inactive + 1 }
one_tick_more sign.Listed t = record t { listed = t.listed + 1 }
one_tick_more sign.Deferred t = record t { deferred = t.deferred + 1 }
one_tick_more sign.Waits t = record t { ready = t.ready + 1 }
one_tick_more sign.Burns t = record t { burned = t.burned + 1 }
one_tick_more sign.Sleeps t = record t { slept = t.slept + 1 }

abbrev pub ticked : Sign → Account → Account
ticked sign account = record account { ticks = one_tick_more sign account.ticks }

-- all ticks of an account
abbrev pub all_ticks : Ticks → ℕ
all_ticks t = t.timer + (t.inactive + (t.listed + (t.deferred + (t.ready + (t.burned + t.slept)))))

-- those in which the instance was queued, and hadn't started
abbrev pub queued_ticks : Ticks → ℕ
queued_ticks t = t.inactive + (t.listed + t.deferred)

abbrev pub account_at : List (Option Account) → ℕ → Option Account
account_at accounts w = slice_index_or accounts w None

-- the ledger in which a scenario begins
abbrev pub empty_ledger : ScenarioContents → LedgerContents
empty_ledger S = record { pending = replicate (length S.works) None; running = replicate (length S.works) None }

-- A tick: each account of an instance gets one in the count of what the instance does in it.

abbrev pub pending_ticked : Option Pending → Option Account → Option Account
pending_ticked (Some p) (Some account) = Some (ticked (place_sign p.place) account)
pending_ticked (Some p) None = None
pending_ticked None account = account

abbrev pub running_ticked : ScenarioContents → State → ℕ → Option Running → Option Account → Option Account
running_ticked S s w (Some r) (Some account) = Some (ticked (run_sign S s w r) account)
running_ticked S s w (Some r) None = None
running_ticked S s w None account = account

-- from the work of number w on
abbrev pub all_pending_ticked : State → ℕ → List (Option Account) → List (Option Account)
all_pending_ticked s w [] = []
all_pending_ticked s w (account ∷ accounts) = pending_ticked (pending_at s w) account ∷ all_pending_ticked s (w + 1) accounts

abbrev pub all_running_ticked : ScenarioContents → State → ℕ → List (Option Account) → List (Option Account)
all_running_ticked S s w [] = []
all_running_ticked S s w (account ∷ accounts) =
    running_ticked S s w (running_at s w) account ∷ all_running_ticked S s (w + 1) accounts

abbrev pub ledger_ticked : ScenarioContents → State → LedgerContents → LedgerContents
ledger_ticked S s L = record { pending = all_pending_ticked s 0 L.pending; running = all_running_ticked S s 0 L.running }

-- time passes from the one state to the other
abbrev pub lets_pass : State → State → Bool
lets_pass s after = nat_lt s.time after.time

abbrev pub ledger_passed : ScenarioContents → State → State → LedgerContents → LedgerContents
ledger_passed S s after L = if lets_pass s after then ledger_ticked S s L else L

-- Ends and beginnings.

abbrev pub account_of : List (Option Account) → Option ℕ → Option Account
account_of accounts (Some w) = account_at accounts w
account_of accounts None = None

-- without the account of that work, if it is one
abbrev pub without_account : Option ℕ → List (Option Account) → List (Option Account)
without_account (Some w) accounts = slice_set accounts w None
without_account None accounts = accounts

-- the running half ends
abbrev pub ledger_finished : Option ℕ → LedgerContents → LedgerContents
ledger_finished w L = record L { running = without_account w L.running }

-- the account of the pending half becomes that of the running half
abbrev pub ledger_started : Option ℕ → LedgerContents → LedgerContents
ledger_started (Some w) L =
    record { pending = slice_set L.pending w None; running = slice_set L.running w (account_at L.pending w) }
ledger_started None L = L

-- the pending half ends
abbrev pub ledger_cancelled : Option ℕ → LedgerContents → LedgerContents
ledger_cancelled w L = record L { pending = without_account w L.pending }

-- a work that is pending and has no account for that gets one
abbrev pub account_or_new : ℕ → Option Pending → Option Account → Option Account
account_or_new time (Some p) (Some account) = Some account
account_or_new time (Some p) None = Some (new_account time)
account_or_new time None account = account

-- from the work of number w on
abbrev pub all_opened : State → ℕ → List (Option Account) → List (Option Account)
all_opened s w [] = []
all_opened s w (account ∷ accounts) = account_or_new s.time (pending_at s w) account ∷ all_opened s (w + 1) accounts

abbrev pub ledger_opened : State → LedgerContents → LedgerContents
ledger_opened s L = record L { pending = all_opened s 0 L.pending }

-- What an instruction does to a ledger to which the time has been added that passed in it, with the state after it and its reply.
abbrev pub ledger_moved : LedgerContents → State → Instr → Reply → LedgerContents
ledger_moved L after i reply =
    ledger_opened after (ledger_cancelled (cancelled_by i reply) (ledger_started (started_by reply) (ledger_finished (finished_by reply) L)))

-- an instruction, with the state before it, and the state after it and its reply
abbrev pub ledger_by : ScenarioContents → LedgerContents → State → Instr → State × Reply → LedgerContents
ledger_by S L s i after = ledger_moved (ledger_passed S s after.0 L) after.0 i after.1

abbrev pub ledger_after : ScenarioContents → LedgerContents → State → Instr → LedgerContents
ledger_after S L s i = ledger_by S L s i (table S s i)

-- Lines.

-- the line of a half that had this account
abbrev pub account_line : ℕ → Fate → ℕ → Option Account → List TimesLine
account_line time fate w (Some account) = record { time = time; work = record { 0 = w }; fate = fate; account = account } ∷ []
account_line time fate w None = []

abbrev pub line_of_ended : ℕ → Fate → Option ℕ → List (Option Account) → List TimesLine
line_of_ended time fate (Some w) accounts = account_line time fate w (account_at accounts w)
line_of_ended time fate None accounts = []

-- The lines of the halves that an instruction ends, at the time after it, if the ledger has the time that passed in it. No instruction
-- ends two.
abbrev pub lines_ended : LedgerContents → ℕ → Instr → Reply → List TimesLine
lines_ended L time i reply =
    line_of_ended time Finished (finished_by reply) L.running ++ line_of_ended time Cancelled (cancelled_by i reply) L.pending

abbrev pub lines_by : ScenarioContents → LedgerContents → State → Instr → State × Reply → List TimesLine
lines_by S L s i after = lines_ended (ledger_passed S s after.0 L) after.0.time i after.1

abbrev pub lines_ending_at : ScenarioContents → LedgerContents → State → Instr → List TimesLine
lines_ending_at S L s i = lines_by S L s i (table S s i)

-- Runs.

-- the lines of those that end, from a ledger and a state on
abbrev pub lines_from : ScenarioContents → LedgerContents → State → List Instr → List TimesLine
lines_from S L s [] = []
lines_from S L s (i ∷ is) = lines_ending_at S L s i ++ lines_from S (ledger_after S L s i) (table S s i).0 is

-- the ledger after the instructions
abbrev pub ledger_from : ScenarioContents → LedgerContents → State → List Instr → LedgerContents
ledger_from S L s [] = L
ledger_from S L s (i ∷ is) = ledger_from S (ledger_after S L s i) (table S s i).0 is

-- Those that are still there.

abbrev pub line_of_pending : ℕ → ℕ → Option Pending → Option Account → List TimesLine
line_of_pending time w (Some p) account = account_line time (StillPending p.place) w account
line_of_pending time w None account = []

-- the lines of a work's two halves, the running one first
abbrev pub still_of : LedgerContents → State → ℕ → List TimesLine
still_of L s w =
    account_line s.time StillRunning w (account_at L.running w)
    ++ line_of_pending s.time w (pending_at s w) (account_at L.pending w)

-- a line among lines that are in order: before the first one that isn't of an earlier instance
abbrev pub put_by_since : TimesLine → List TimesLine → List TimesLine
put_by_since line [] = line ∷ []
put_by_since line (other ∷ others) =
    if nat_le line.account.since other.account.since then line ∷ other ∷ others else other ∷ put_by_since line others

-- these lines among lines that are in order
abbrev pub put_all : List TimesLine → List TimesLine → List TimesLine
put_all [] others = others
put_all (line ∷ lines) others = put_by_since line (put_all lines others)

abbrev pub by_since : List TimesLine → List TimesLine
by_since lines = put_all lines []

-- the lines of all that are still there: by the time since which they are, then by the work's number, running before pending
abbrev pub still_lines : ScenarioContents → LedgerContents → State → List TimesLine
still_lines S L s = by_since (flat_map (still_of L s) (below (length S.works)))
