-- There are as many accounts and lines of a work since a time as it was asked for then.
use Rattle.std.proofs.Common.{◌≡◌, ℕ, ◌+◌, ◌<◌, Bool, true, false, cond, ◌&&◌, List, [], ◌∷◌, ◌++◌, length, Option, Some, None, arith, refl, ap, ◌∙◌}
use Rattle.std.proofs.lemmas.List.Sums.{sum_by-append}
use Rattle.std.specs.Prelude.{count_by, is_some, ◌==◌}
use Rattle.cmwq_types.specs.Contents.{ScenarioContents}
use Rattle.cmwq_types.specs.declared.instr.Instr.{Instr}
use Rattle.cmwq_table.specs.Counts.{is_some_work}
use Rattle.cmwq_table.specs.Laws.{reply_to, state_after}
use Rattle.cmwq_table.specs.State.{State, pending_at, running_at, start}
use Rattle.cmwq_table.specs.Table.{after_all}
use Rattle.cmwq_table.specs.declared.state.Pending.{Pending}
use Rattle.cmwq_table.specs.declared.state.Running.{Running}
use Rattle.cmwq_ledger.specs.Contents.{LedgerContents}
use Rattle.cmwq_table.specs.Told.{cancelled_by, requested_by, started_by}
use Rattle.cmwq_ledger.specs.Ledger.{account_at, empty_ledger, ledger_after, ledger_from, lets_pass, lines_ending_at, lines_from, new_account, pending_ticked, running_ticked, still_lines}
use Rattle.cmwq_ledger.specs.declared.account.Account.{Account}
use Rattle.cmwq_ledger_laws.specs.Laws.{asks_at, is_since, requests_from}
use Rattle.cmwq_ledger_laws.proofs.Agreeing.{IsKept, next-kept, pends-at}
use Rattle.cmwq_ledger_laws.proofs.Counting.{IsBelow, bit}
use Rattle.cmwq_ledger_laws.proofs.Halves.{Pends}
use Rattle.cmwq_ledger_laws.proofs.Measuring.{Measure, amount, asked, left-amount, pick-one, start-amount, step-balance, total, total_passed}
use Rattle.cmwq_ledger_laws.proofs.Starting.{below-from}
use Rattle.cmwq_ledger_laws.proofs.Stepping.{pending_passed, running_passed}
use Rattle.cmwq_ledger_laws.proofs.SumLemmas.{sum-none, sum-same, sum_below}
use Rattle.cmwq_ledger_laws.proofs.Turning.{some-there, table-long}

-- whether the account is one of this work, since this time
abbrev since : ℕ → ℕ → Measure
since work time w account = bit ((w == work) && (account.since == time))

module _ (work time : ℕ) where
  pending-since : (w : ℕ) (o : Option Pending) (a : Option Account) → amount (since work time) w (pending_ticked o a) ≡ amount (since work time) w a
  pending-since w (Some p) (Some a) = refl
  pending-since w (Some p) None = refl
  pending-since w None a = refl

  running-since : (S : ScenarioContents) (s : State) (w : ℕ) (o : Option Running) (a : Option Account) → amount (since work time) w (running_ticked S s w o a) ≡ amount (since work time) w a
  running-since S s w (Some r) (Some a) = refl
  running-since S s w (Some r) None = refl
  running-since S s w None a = refl

  -- time doesn't change since when they are there
  passed-since : (S : ScenarioContents) (s t : State) (L : LedgerContents) (n : ℕ) → total_passed (since work time) S s t L n ≡ total (since work time) L n
  passed-since S s t L n =
      sum-same (λ w. amount (since work time) w (pending_passed s t L w) + amount (since work time) w (running_passed S s t L w))
      (λ w. amount (since work time) w (account_at L.pending w) + amount (since work time) w (account_at L.running w)) n (λ w.
      let pends = pending-if w (lets_pass s t) in
      let runs = running-if w (lets_pass s t) in
      omega (arith, pends, runs))
    where
      pending-if : (w : ℕ) (b : Bool) → amount (since work time) w (cond b (pending_ticked (pending_at s w) (account_at L.pending w)) (account_at L.pending w)) ≡ amount (since work time) w (account_at L.pending w)
      pending-if w true = pending-since w (pending_at s w) (account_at L.pending w)
      pending-if w false = refl

      running-if : (w : ℕ) (b : Bool)
          → amount (since work time) w (cond b (running_ticked S s w (running_at s w) (account_at L.running w)) (account_at L.running w)) ≡ amount (since work time) w (account_at L.running w)
      running-if w true = running-since S s w (running_at s w) (account_at L.running w)
      running-if w false = refl

  asked-for : (now : ℕ) (o : Option ℕ) (n : ℕ) → IsBelow o n → sum_below (λ w. asked (since work time) now (is_some_work o w) w) n ≡ bit (is_some_work o work && (now == time))
  asked-for now (Some v) n there = pick-one (λ w. since work time w (new_account now)) v n there
  asked-for now None n there = sum-none (λ w. 0) n (λ w. refl)

  asks-is : (st c req was is : Bool) → Pends st c req was is → req ≡ true → is ≡ true
  asks-is st c req was is (Pends.stays there) e = cc
  asks-is st c req was is Pends.begins e = cc
  asks-is st c req was is Pends.ends e = cc
  asks-is st c req was is Pends.comes e = refl
  asks-is st c req was is Pends.anew e = refl

  step-since : (S : ScenarioContents) (s : State) (L : LedgerContents) (i : Instr) → IsKept S s L
      → count_by (is_since work time) (lines_ending_at S L s i) + total (since work time) (ledger_after S L s i) (length S.works)
      ≡ total (since work time) L (length S.works) + bit (asks_at S s i work time)
  step-since S s L i kept =
      let t = state_after S s i in
      let r = reply_to S s i in
      let n = length S.works in
      let long : length t.pending ≡ length s.pending = table-long S s i kept.setting kept.pending_long in
      let there : IsBelow (requested_by i r) n =
      below-from (requested_by i r) n (λ w e.
      let is : is_some (pending_at t w) ≡ true =
      asks-is (is_some_work (started_by r) w) (is_some_work (cancelled_by i r) w) (is_some_work (requested_by i r) w) (is_some (pending_at s w)) (is_some (pending_at t w))
      (pends-at S s i kept.setting kept.pending_long kept.in_pools w) e in
      let pends : w < length t.pending = some-there t.pending w is in
      omega (arith, long, kept.pending_long))
      in
      let balance = step-balance (since work time) S s L i kept in
      let passed = passed-since S s t L n in
      let asks = asked-for t.time (requested_by i r) n there in
      omega (arith, balance, passed, asks)

  adds-up : (lines rest m n e k more : ℕ) → lines + n ≡ m + k → rest + e ≡ n + more → (lines + rest) + e ≡ m + (k + more)
  adds-up lines rest m n e k more p q = omega arith

  all-since : (S : ScenarioContents) (s : State) (L : LedgerContents) (instrs : List Instr) → IsKept S s L
      → count_by (is_since work time) (lines_from S L s instrs) + total (since work time) (ledger_from S L s instrs) (length S.works)
      ≡ total (since work time) L (length S.works) + requests_from S s instrs work time
  all-since S s L [] kept = omega arith
  all-since S s L (i ∷ instrs) kept =
      let t = state_after S s i in
      let M = ledger_after S L s i in
      let n = length S.works in
      let both : count_by (is_since work time) (lines_from S L s (i ∷ instrs)) ≡ count_by (is_since work time) (lines_ending_at S L s i) + count_by (is_since work time) (lines_from S M t instrs) =
      sum_by-append (λ line. bit (is_since work time line)) (lines_ending_at S L s i) (lines_from S M t instrs) in
      ap (λ (k : ℕ). k + total (since work time) (ledger_from S M t instrs) n) both
      ∙ adds-up (count_by (is_since work time) (lines_ending_at S L s i)) (count_by (is_since work time) (lines_from S M t instrs)) (total (since work time) L n) (total (since work time) M n)
      (total (since work time) (ledger_from S M t instrs) n) (bit (asks_at S s i work time)) (requests_from S t instrs work time) (step-since S s L i kept) (all-since S t M instrs (next-kept S s L i kept))

  pub run-since : (S : ScenarioContents) (instrs : List Instr) → IsKept S (start S) (empty_ledger S) → IsKept S (after_all S (start S) instrs) (ledger_from S (empty_ledger S) (start S) instrs)
      → count_by (is_since work time) (lines_from S (empty_ledger S) (start S) instrs ++ still_lines S (ledger_from S (empty_ledger S) (start S) instrs) (after_all S (start S) instrs))
      ≡ requests_from S (start S) instrs work time
  run-since S instrs kept end =
      let E = ledger_from S (empty_ledger S) (start S) instrs in
      let ended = lines_from S (empty_ledger S) (start S) instrs in
      let left = still_lines S E (after_all S (start S) instrs) in
      let both : count_by (is_since work time) (ended ++ left) ≡ count_by (is_since work time) ended + count_by (is_since work time) left =
      sum_by-append (λ line. bit (is_since work time line)) ended left in
      let there = left-amount (since work time) S (after_all S (start S) instrs) E end in
      let all = all-since S (start S) (empty_ledger S) instrs kept in
      let none = start-amount (since work time) S in
      omega (arith, both, there, all, none)
