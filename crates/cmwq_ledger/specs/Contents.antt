-- What contracts see of a ledger and of totals.
use Rattle.std.specs.Prelude.{ℕ, List, Option}
use Rattle.cmwq_ledger.specs.declared.account.Account.{Account}
use Rattle.cmwq_ledger.specs.declared.queue_totals.QueueTotals.{QueueTotals}

-- Of each work, by number, the account of its pending half and that of its running half: two finite maps.
pub record LedgerContents : Type 0 where
  pub pending : List (Option Account)
  pub running : List (Option Account)

-- what is counted of each queue; of each pool, how many ticks were burned in it; and of each CPU, how many ticks it was idle
pub record TotalsContents : Type 0 where
  pub queues : List QueueTotals
  pub pools : List ℕ
  pub idle : List ℕ
