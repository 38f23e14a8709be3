-- What holds of every line, where it holds of each account.
use Rattle.std.proofs.Common.{ℕ, Bool, true, false, cond, List, [], ◌∷◌, length, Option, Some, None, All}
use Rattle.std.proofs.lemmas.List.Elements.{All-append, All-cons, All-head, All-nil, All-tail}
use Rattle.std.specs.List.{flat_map}
use Rattle.std.specs.Prelude.{nat_le}
use Rattle.cmwq_types.specs.Contents.{ScenarioContents}
use Rattle.cmwq_table.specs.State.{State, pending_at}
use Rattle.cmwq_table.specs.declared.state.Pending.{Pending}
use Rattle.cmwq_picture.specs.Picture.{below}
use Rattle.cmwq_ledger.specs.Contents.{LedgerContents}
use Rattle.cmwq_ledger.specs.Ledger.{account_at, by_since, account_line, line_of_ended, line_of_pending, put_all, put_by_since, still_lines, still_of}
use Rattle.cmwq_ledger.specs.declared.account.Account.{Account}
use Rattle.cmwq_ledger.specs.declared.times_line.Fate.{Fate}
use Rattle.cmwq_ledger.specs.declared.times_line.Fate.TheVariants.{StillPending, StillRunning}
use Rattle.cmwq_ledger.specs.declared.times_line.TimesLine.{TimesLine}

-- the line of such an account, if there is one
abbrev pub LineHolds : (TimesLine → Type 0) → ℕ → Fate → ℕ → Option Account → Type 0
LineHolds P time fate w (Some account) = P (record { time = time; work = record { 0 = w }; fate = fate; account = account })
LineHolds P time fate w None = Unit {0}

-- that of the work, if it is one
abbrev pub EndedHolds : (TimesLine → Type 0) → ℕ → Fate → Option ℕ → List (Option Account) → Type 0
EndedHolds P time fate (Some w) accounts = LineHolds P time fate w (account_at accounts w)
EndedHolds P time fate None accounts = Unit {0}

abbrev pub PendingHolds : (TimesLine → Type 0) → ℕ → ℕ → Option Pending → Option Account → Type 0
PendingHolds P time w (Some p) account = LineHolds P time (StillPending p.place) w account
PendingHolds P time w None account = Unit {0}

module _ (P : TimesLine → Type 0) where
  line-holds : (time : ℕ) (fate : Fate) (w : ℕ) (a : Option Account) → LineHolds P time fate w a → All P (account_line time fate w a)
  line-holds time fate w (Some account) h = All-cons P (record { time = time; work = record { 0 = w }; fate = fate; account = account }) [] h (All-nil P)
  line-holds time fate w None h = All-nil P

  pub ended-holds : (time : ℕ) (fate : Fate) (o : Option ℕ) (accounts : List (Option Account)) → EndedHolds P time fate o accounts → All P (line_of_ended time fate o accounts)
  ended-holds time fate (Some w) accounts h = line-holds time fate w (account_at accounts w) h
  ended-holds time fate None accounts h = All-nil P

  pending-holds : (time w : ℕ) (o : Option Pending) (a : Option Account) → PendingHolds P time w o a → All P (line_of_pending time w o a)
  pending-holds time w (Some p) a h = line-holds time (StillPending p.place) w a h
  pending-holds time w None a h = All-nil P

  still-of-holds : (L : LedgerContents) (s : State) (w : ℕ) → LineHolds P s.time StillRunning w (account_at L.running w) → PendingHolds P s.time w (pending_at s w) (account_at L.pending w)
      → All P (still_of L s w)
  still-of-holds L s w runs pends =
      All-append P (account_line s.time StillRunning w (account_at L.running w)) (line_of_pending s.time w (pending_at s w) (account_at L.pending w))
      (line-holds s.time StillRunning w (account_at L.running w) runs) (pending-holds s.time w (pending_at s w) (account_at L.pending w) pends)

  put-if : (line other : TimesLine) (others rest : List TimesLine) (b : Bool) → P line → P other → All P others → All P rest
      → All P (cond {A = List TimesLine} b (line ∷ other ∷ others) (other ∷ rest))
  put-if line other others rest true here next all_others all_rest = All-cons P line (other ∷ others) here (All-cons P other others next all_others)
  put-if line other others rest false here next all_others all_rest = All-cons P other rest next all_rest

  put-holds : (line : TimesLine) (lines : List TimesLine) → P line → All P lines → All P (put_by_since line lines)
  put-holds line [] here rest = All-cons P line [] here (All-nil P)
  put-holds line (other ∷ others) here rest =
      put-if line other others (put_by_since line others) (nat_le line.account.since other.account.since) here (All-head P other others rest) (All-tail P other others rest)
      (put-holds line others here (All-tail P other others rest))

  all-holds : (lines others : List TimesLine) → All P lines → All P others → All P (put_all lines others)
  all-holds [] others h rest = rest
  all-holds (line ∷ lines) others h rest = put-holds line (put_all lines others) (All-head P line lines h) (all-holds lines others (All-tail P line lines h) rest)

  sorted-holds : (lines : List TimesLine) → All P lines → All P (by_since lines)
  sorted-holds lines h = all-holds lines [] h (All-nil P)

  flat-holds : (f : ℕ → List TimesLine) (ws : List ℕ) → ((w : ℕ) → All P (f w)) → All P (flat_map f ws)
  flat-holds f [] each = All-nil P
  flat-holds f (w ∷ ws) each = All-append P (f w) (flat_map f ws) (each w) (flat-holds f ws each)

  -- of those that are still there
  pub still-holds : (S : ScenarioContents) (L : LedgerContents) (s : State)
      → ((w : ℕ) → LineHolds P s.time StillRunning w (account_at L.running w) × PendingHolds P s.time w (pending_at s w) (account_at L.pending w)) → All P (still_lines S L s)
  still-holds S L s each =
      sorted-holds (flat_map (still_of L s) (below (length S.works))) (flat-holds (still_of L s) (below (length S.works)) (λ w. still-of-holds L s w (each w).0 (each w).1))
