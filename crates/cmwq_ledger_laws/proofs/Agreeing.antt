-- Along a run the accounts are those of the instances that are there.
use Rattle.std.proofs.Common.{◌≡◌, ℕ, zero, suc, ◌≤◌, Bool, true, false, cond, ◌||◌, List, [], ◌∷◌, length, replicate, Option, Some, None, arith, refl, sym, ap, ◌∙◌, inl, inr}
use Rattle.std.proofs.lemmas.Bool.{cases_lt}
use Rattle.std.proofs.lemmas.List.{get_or_past, length-replicate}
use Rattle.std.specs.Prelude.{is_some, slice_index_or}
use Rattle.cmwq_types.specs.Contents.{ScenarioContents}
use Rattle.cmwq_types.specs.Faults.{IsValid}
use Rattle.cmwq_types.specs.Setting.{IsSetting}
use Rattle.cmwq_types.specs.declared.instr.Instr.{Instr}
use Rattle.cmwq_types.specs.declared.reply.Reply.{Reply}
use Rattle.cmwq_types.proofs.SettingLemmas.{IsSetting-valid}
use Rattle.cmwq_table.specs.Counts.{is_some_work}
use Rattle.cmwq_table.specs.Laws.{reply_to, state_after}
use Rattle.cmwq_table.specs.State.{State, pending_at, running_at, start}
use Rattle.cmwq_table.specs.Table.{after_all, run, table}
use Rattle.cmwq_table.specs.declared.state.Pending.{Pending}
use Rattle.cmwq_table.specs.declared.state.Running.{Running}
use Rattle.cmwq_burning.specs.Burning.{finishes_work, starts_work}
use Rattle.cmwq_burning.proofs.Happening.{table-does}
use Rattle.cmwq_burning.proofs.Telling.{RunInPools, run-in_pools, table-in_pools}
use Rattle.cmwq_ledger.specs.Contents.{LedgerContents}
use Rattle.cmwq_table.specs.Told.{cancelled_by, finished_by, requested_by, started_by}
use Rattle.cmwq_ledger.specs.Ledger.{account_at, account_or_new, empty_ledger, ledger_after, ledger_from, lets_pass, pending_ticked, running_ticked}
use Rattle.cmwq_ledger.specs.declared.account.Account.{Account}
use Rattle.cmwq_ledger_laws.proofs.Halves.{Pends, Runs, finished-tells, pending-half, running-half, started-tells}
use Rattle.cmwq_ledger_laws.proofs.Stepping.{by-long, by-pending, by-running, pending_passed, running_passed}
use Rattle.cmwq_ledger_laws.proofs.Turning.{table-long, table-turns}

-- A state that a run comes to, and its ledger.
pub record IsKept (S : ScenarioContents) (s : State) (L : LedgerContents) : Type 0 where
  pub setting : IsSetting S
  pub pending_long : length s.pending ≡ length S.works
  pub in_pools : RunInPools S s.running
  pub pending_accounts : length L.pending ≡ length S.works
  pub running_accounts : length L.running ≡ length S.works
  pub pending : (w : ℕ) → is_some (account_at L.pending w) ≡ is_some (pending_at s w)
  pub running : (w : ℕ) → is_some (account_at L.running w) ≡ is_some (running_at s w)

-- An instruction, for one work.

module _ (S : ScenarioContents) (s : State) (i : Instr) (setting : IsSetting S) (long : length s.pending ≡ length S.works) (in_pools : RunInPools S s.running) (w : ℕ) where
  pub pends-at : Pends (is_some_work (started_by (reply_to S s i)) w) (is_some_work (cancelled_by i (reply_to S s i)) w) (is_some_work (requested_by i (reply_to S s i)) w)
      (is_some (pending_at s w)) (is_some (pending_at (state_after S s i) w))
  pends-at =
      pending-half s (state_after S s i) (started_by (reply_to S s i)) (cancelled_by i (reply_to S s i)) (requested_by i (reply_to S s i)) (table-turns S s i setting long) w

  pub runs-at : Runs (is_some_work (started_by (reply_to S s i)) w) (is_some_work (finished_by (reply_to S s i)) w) (is_some (running_at s w)) (is_some (running_at (state_after S s i) w))
  runs-at =
      let r = reply_to S s i in
      let told : Runs (starts_work w r) (finishes_work w r) (is_some (running_at s w)) (is_some (running_at (state_after S s i) w)) =
      running-half S s (state_after S s i).running (state_after S s i).time r in_pools.long (table-does S s i) w in
      rw (started-tells r w, finished-tells r w) told

-- An account that is there goes on to be.

ticked-some : (o : Option Pending) (a : Option Account) → is_some (pending_ticked o a) ≡ is_some a
ticked-some (Some p) (Some a) = refl
ticked-some (Some p) None = refl
ticked-some None a = refl

pub pending-passed-some : (s t : State) (L : LedgerContents) (w : ℕ) → is_some (pending_passed s t L w) ≡ is_some (account_at L.pending w)
pending-passed-some s t L w = some-if (lets_pass s t) where
  some-if : (b : Bool) → is_some (cond b (pending_ticked (pending_at s w) (account_at L.pending w)) (account_at L.pending w)) ≡ is_some (account_at L.pending w)
  some-if true = ticked-some (pending_at s w) (account_at L.pending w)
  some-if false = refl

running-ticked-some : (S : ScenarioContents) (s : State) (w : ℕ) (o : Option Running) (a : Option Account) → is_some (running_ticked S s w o a) ≡ is_some a
running-ticked-some S s w (Some r) (Some a) = refl
running-ticked-some S s w (Some r) None = refl
running-ticked-some S s w None a = refl

pub running-passed-some : (S : ScenarioContents) (s t : State) (L : LedgerContents) (w : ℕ) → is_some (running_passed S s t L w) ≡ is_some (account_at L.running w)
running-passed-some S s t L w = some-if (lets_pass s t) where
  some-if : (b : Bool) → is_some (cond b (running_ticked S s w (running_at s w) (account_at L.running w)) (account_at L.running w)) ≡ is_some (account_at L.running w)
  some-if true = running-ticked-some S s w (running_at s w) (account_at L.running w)
  some-if false = refl

opened-some : (time : ℕ) (o : Option Pending) (a : Option Account) → is_some (account_or_new time o a) ≡ (is_some o || is_some a)
opened-some time (Some p) (Some a) = refl
opened-some time (Some p) None = refl
opened-some time None a = refl

or-same : (b : Bool) → (b || b) ≡ b
or-same true = refl
or-same false = refl

or-true : (b : Bool) → (true || b) ≡ true
or-true b = refl

pends-agree : (time : ℕ) (o : Option Pending) (a : Option Account) (st c req was is : Bool) → Pends st c req was is → is_some a ≡ was → is_some o ≡ is
    → is_some (account_or_new time o (cond c None (cond st None a))) ≡ is
pends-agree time o a st c req was is (Pends.stays there) p q = opened-some time o a ∙ rw (p, q) (or-same there)
pends-agree time o a st c req was is Pends.begins p q = opened-some time o None ∙ rw q refl
pends-agree time o a st c req was is Pends.ends p q = opened-some time o None ∙ rw q refl
pends-agree time o a st c req was is Pends.comes p q = opened-some time o a ∙ rw (p, q) refl
pends-agree time o a st c req was is Pends.anew p q = opened-some time o None ∙ rw q refl

pub begins-was : (st c req was is : Bool) → Pends st c req was is → st ≡ true → was ≡ true
begins-was st c req was is (Pends.stays there) e = cc
begins-was st c req was is Pends.begins e = refl
begins-was st c req was is Pends.ends e = cc
begins-was st c req was is Pends.comes e = cc
begins-was st c req was is Pends.anew e = cc

runs-agree : (pend runs : Option Account) (st f was is : Bool) → Runs st f was is → (st ≡ true → is_some pend ≡ true) → is_some runs ≡ was → is_some (cond st pend (cond f None runs)) ≡ is
runs-agree pend runs st f was is (Runs.stays there) there_too p = p
runs-agree pend runs st f was is Runs.begins there_too p = there_too refl
runs-agree pend runs st f was is Runs.ends there_too p = refl
runs-agree pend runs st f was is Runs.again there_too p = there_too refl

past-none : {A : Type 0} (xs : List (Option A)) (w : ℕ) → length xs ≤ w → is_some (slice_index_or xs w None) ≡ false
past-none xs w past = ap is_some (get_or_past xs w None past)

module _ (S : ScenarioContents) (s : State) (L : LedgerContents) (i : Instr) (kept : IsKept S s L) where
  abbrev t : State
  t = state_after S s i

  abbrev r : Reply
  r = reply_to S s i

  abbrev M : LedgerContents
  M = ledger_after S L s i

  next-long : length t.pending ≡ length S.works
  next-long = table-long S s i kept.setting kept.pending_long ∙ kept.pending_long

  next-pools : RunInPools S t.running
  next-pools = table-in_pools S s i kept.in_pools

  next-accounts : (length M.pending ≡ length S.works) × (length M.running ≡ length S.works)
  next-accounts = let long = by-long S L s i (table S s i) in (long.0 ∙ kept.pending_accounts, long.1 ∙ kept.running_accounts)

  next-pending : (w : ℕ) → is_some (account_at M.pending w) ≡ is_some (pending_at t w)
  next-pending w = elim (cases_lt w (length S.works)) [
    | inl there ↦
        ap is_some (by-pending S L s i (table S s i) w (omega (arith, kept.pending_accounts)))
        ∙ pends-agree t.time (pending_at t w) (pending_passed s t L w) (is_some_work (started_by r) w) (is_some_work (cancelled_by i r) w) (is_some_work (requested_by i r) w)
        (is_some (pending_at s w)) (is_some (pending_at t w)) (pends-at S s i kept.setting kept.pending_long kept.in_pools w) (pending-passed-some s t L w ∙ kept.pending w) refl
    | inr past ↦ past-none M.pending w (omega (arith, next-accounts.0)) ∙ sym (past-none t.pending w (omega (arith, next-long)))
  ]

  next-running : (w : ℕ) → is_some (account_at M.running w) ≡ is_some (running_at t w)
  next-running w = elim (cases_lt w (length S.works)) [
    | inl there ↦
        let pends = pends-at S s i kept.setting kept.pending_long kept.in_pools w in
        ap is_some (by-running S L s i (table S s i) w (omega (arith, kept.running_accounts)))
        ∙ runs-agree (pending_passed s t L w) (running_passed S s t L w) (is_some_work (started_by r) w) (is_some_work (finished_by r) w)
        (is_some (running_at s w)) (is_some (running_at t w)) (runs-at S s i kept.setting kept.pending_long kept.in_pools w)
        (λ st. pending-passed-some s t L w ∙ kept.pending w ∙ begins-was (is_some_work (started_by r) w) (is_some_work (cancelled_by i r) w) (is_some_work (requested_by i r) w) (is_some (pending_at s w)) (is_some (pending_at t w)) pends st)
        (running-passed-some S s t L w ∙ kept.running w)
    | inr past ↦ past-none M.running w (omega (arith, next-accounts.1)) ∙ sym (past-none t.running w (omega (arith, next-pools.long)))
  ]

  pub next-kept : IsKept S t M
  next-kept = record {
    setting = kept.setting;
    pending_long = next-long;
    in_pools = next-pools;
    pending_accounts = next-accounts.0;
    running_accounts = next-accounts.1;
    pending = next-pending;
    running = next-running;
  }

-- Runs.

pub none-there : (A : Type 0) (n w : ℕ) → is_some (slice_index_or (replicate {A = Option A} n None) w None) ≡ false
none-there A zero w = refl
none-there A (suc n) zero = refl
none-there A (suc n) (suc w) = none-there A n w

pub start-kept : (S : ScenarioContents) → IsValid S → IsKept S (start S) (empty_ledger S)
start-kept S valid =
    let n = length S.works in
    record {
      setting = IsSetting-valid S valid;
      pending_long = length-replicate n None;
      in_pools = run-in_pools S [];
      pending_accounts = length-replicate n None;
      running_accounts = length-replicate n None;
      pending = λ w. none-there Account n w ∙ sym (none-there Pending n w);
      running = λ w. none-there Account n w ∙ sym (none-there Running n w);
    }

pub all-kept : (S : ScenarioContents) (s : State) (L : LedgerContents) (instrs : List Instr) → IsKept S s L → IsKept S (after_all S s instrs) (ledger_from S L s instrs)
all-kept S s L [] kept = kept
all-kept S s L (i ∷ instrs) kept = all-kept S (state_after S s i) (ledger_after S L s i) instrs (next-kept S s L i kept)

pub run-kept : (S : ScenarioContents) (instrs : List Instr) → IsValid S → IsKept S (run S instrs) (ledger_from S (empty_ledger S) (start S) instrs)
run-kept S instrs valid = all-kept S (start S) (empty_ledger S) instrs (start-kept S valid)
