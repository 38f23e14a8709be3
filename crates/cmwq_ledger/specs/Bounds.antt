-- How great counts are. No public clause cites this but to say that there is room for more.
use Rattle.std.specs.Prelude.{ℕ, ◌≤◌, List, [], ◌∷◌, Option, Some, None, slice_index_or}
use Rattle.cmwq_ledger.specs.Books.{BooksContents}
use Rattle.cmwq_ledger.specs.Contents.{LedgerContents, TotalsContents}
use Rattle.cmwq_ledger.specs.Ledger.{account_at, all_ticks}
use Rattle.cmwq_ledger.specs.Totals.{nothing_counted}
use Rattle.cmwq_ledger.specs.declared.account.Account.{Account}
use Rattle.cmwq_ledger.specs.declared.queue_totals.QueueTotals.{QueueTotals}
use Rattle.cmwq_ledger.specs.declared.times_line.TimesLine.{TimesLine}

-- an account has at most so many ticks
abbrev pub IsAccountWithin : ℕ → Option Account → Type 0
IsAccountWithin n (Some account) = all_ticks account.ticks ≤ n
IsAccountWithin n None = Unit {0}

abbrev pub AreWithin : ℕ → List (Option Account) → Type 0
AreWithin n accounts = (w : ℕ) → IsAccountWithin n (account_at accounts w)

pub record IsLedgerWithin (n : ℕ) (L : LedgerContents) : Type 0 where
  pub pending : AreWithin n L.pending
  pub running : AreWithin n L.running

-- no count of a queue that goes up by one is greater
pub record IsQueueWithin (n : ℕ) (t : QueueTotals) : Type 0 where
  pub started : t.started ≤ n
  pub finished : t.finished ≤ n
  pub cancelled : t.cancelled ≤ n
  pub rescued : t.rescued ≤ n
  pub burned : t.burned ≤ n

abbrev pub AreQueuesWithin : ℕ → List QueueTotals → Type 0
AreQueuesWithin n totals = (queue : ℕ) → IsQueueWithin n (slice_index_or totals queue nothing_counted)

abbrev pub AreCountsWithin : ℕ → List ℕ → Type 0
AreCountsWithin n counts = (k : ℕ) → slice_index_or counts k 0 ≤ n

pub record AreTotalsWithin (n : ℕ) (T : TotalsContents) : Type 0 where
  pub queues : AreQueuesWithin n T.queues
  pub pools : AreCountsWithin n T.pools
  pub idle : AreCountsWithin n T.idle

pub record AreBooksWithin (n : ℕ) (B : BooksContents) : Type 0 where
  pub ledger : IsLedgerWithin n B.ledger
  pub totals : AreTotalsWithin n B.totals

-- no line has more ticks
abbrev pub AreLinesWithin : ℕ → List TimesLine → Type 0
AreLinesWithin n [] = Unit {0}
AreLinesWithin n (line ∷ lines) = (all_ticks line.account.ticks ≤ n) × AreLinesWithin n lines
