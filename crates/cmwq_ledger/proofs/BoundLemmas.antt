-- How far ticks take accounts, and that what is within a bound is within a greater one.
use Rattle.std.proofs.Common.{◌≡◌, ℕ, zero, suc, ◌+◌, ◌≤◌, List, [], ◌∷◌, Option, Some, None, arith, slice_index_or}
use Rattle.cmwq_types.specs.Contents.{ScenarioContents}
use Rattle.cmwq_table.specs.State.{State, pending_at, running_at}
use Rattle.cmwq_table.specs.declared.state.Pending.{Pending}
use Rattle.cmwq_table.specs.declared.state.Running.{Running}
use Rattle.cmwq_picture.specs.Picture.{place_sign, run_sign}
use Rattle.cmwq_picture.specs.declared.cell.Sign.{Sign}
use Rattle.cmwq_picture.specs.declared.cell.Sign.TheVariants as sign
use Rattle.cmwq_ledger.specs.Ledger.{account_at, all_pending_ticked, all_running_ticked, all_ticks, ledger_ticked, one_tick_more, pending_ticked, running_ticked}
use Rattle.cmwq_ledger.specs.declared.account.Account.{Account}
use Rattle.cmwq_ledger.specs.declared.account.Ticks.{Ticks}
use Rattle.cmwq_ledger.specs.Bounds.{AreCountsWithin, AreQueuesWithin, AreTotalsWithin, AreWithin, IsLedgerWithin, IsQueueWithin, IsAccountWithin}
use Rattle.cmwq_ledger.specs.Contents.{LedgerContents, TotalsContents}
use Rattle.cmwq_ledger.specs.Totals.{nothing_counted}
use Rattle.cmwq_ledger.specs.declared.queue_totals.QueueTotals.{QueueTotals}

queue-up : (m n : ℕ) (t : QueueTotals) → m ≤ n → IsQueueWithin m t → IsQueueWithin n t
queue-up m n t up within = record {
  started = omega (arith, within.started);
  finished = omega (arith, within.finished);
  cancelled = omega (arith, within.cancelled);
  rescued = omega (arith, within.rescued);
  burned = omega (arith, within.burned);
}

pub queues-up : (m n : ℕ) (ts : List QueueTotals) → m ≤ n → AreQueuesWithin m ts → AreQueuesWithin n ts
queues-up m n ts up within queue = queue-up m n (slice_index_or ts queue nothing_counted) up (within queue)

pub counts-up : (m n : ℕ) (counts : List ℕ) → m ≤ n → AreCountsWithin m counts → AreCountsWithin n counts
counts-up m n counts up within k = (let here : slice_index_or counts k 0 ≤ m = within k in omega arith)

pub totals-up : (m n : ℕ) (T : TotalsContents) → m ≤ n → AreTotalsWithin m T → AreTotalsWithin n T
totals-up m n T up within = record {
  queues = queues-up m n T.queues up within.queues;
  pools = counts-up m n T.pools up within.pools;
  idle = counts-up m n T.idle up within.idle;
}

-- a tick is counted once
all_ticks-one : (what : Sign) (t : Ticks) → all_ticks (one_tick_more what t) ≡ all_ticks t + 1
all_ticks-one sign.Timed t = omega arith
all_ticks-one sign.Inactive t = omega arith
all_ticks-one sign.Listed t = omega arith
all_ticks-one sign.Deferred t = omega arith
all_ticks-one sign.Waits t = omega arith
all_ticks-one sign.Burns t = omega arith
all_ticks-one sign.Sleeps t = omega arith

pending_ticked-within : (n : ℕ) (p : Option Pending) (o : Option Account) → IsAccountWithin n o → IsAccountWithin (n + 1) (pending_ticked p o)
pending_ticked-within n (Some p) (Some account) within = omega (arith, within, all_ticks-one (place_sign p.place) account.ticks)
pending_ticked-within n (Some p) None within = tt
pending_ticked-within n None (Some account) within = omega (arith, within)
pending_ticked-within n None None within = tt

running_ticked-within : (S : ScenarioContents) (s : State) (w n : ℕ) (r : Option Running) (o : Option Account) → IsAccountWithin n o → IsAccountWithin (n + 1) (running_ticked S s w r o)
running_ticked-within S s w n (Some r) (Some account) within = omega (arith, within, all_ticks-one (run_sign S s w r) account.ticks)
running_ticked-within S s w n (Some r) None within = tt
running_ticked-within S s w n None (Some account) within = omega (arith, within)
running_ticked-within S s w n None None within = tt

pub pending-within : (s : State) (w n : ℕ) (accounts : List (Option Account)) → AreWithin n accounts → AreWithin (n + 1) (all_pending_ticked s w accounts)
pending-within s w n [] within k = within k
pending-within s w n (o ∷ os) within zero = pending_ticked-within n (pending_at s w) o (within 0)
pending-within s w n (o ∷ os) within (suc k) = pending-within s (w + 1) n os (λ v. within (suc v)) k

pub running-within : (S : ScenarioContents) (s : State) (w n : ℕ) (accounts : List (Option Account)) → AreWithin n accounts → AreWithin (n + 1) (all_running_ticked S s w accounts)
running-within S s w n [] within k = within k
running-within S s w n (o ∷ os) within zero = running_ticked-within S s w n (running_at s w) o (within 0)
running-within S s w n (o ∷ os) within (suc k) = running-within S s (w + 1) n os (λ v. within (suc v)) k

pub ledger-within : (S : ScenarioContents) (s : State) (n : ℕ) (L : LedgerContents) → IsLedgerWithin n L → IsLedgerWithin (n + 1) (ledger_ticked S s L)
ledger-within S s n L within =
    record { pending = pending-within s 0 n L.pending within.pending; running = running-within S s 0 n L.running within.running }

pub ledger-up : (m n : ℕ) (L : LedgerContents) → m ≤ n → IsLedgerWithin m L → IsLedgerWithin n L
ledger-up m n L up within = record { pending = λ w. accounts-up (account_at L.pending w) (within.pending w); running = λ w. accounts-up (account_at L.running w) (within.running w) }
  where
    accounts-up : (o : Option Account) → IsAccountWithin m o → IsAccountWithin n o
    accounts-up (Some account) within = omega (arith, up, within)
    accounts-up None within = tt
