-- What an instruction makes of the account of each half of each work, by what its reply tells.
use Rattle.std.proofs.Common.{◌≡◌, ℕ, zero, suc, ◌+◌, ◌<◌, Bool, true, false, cond, List, [], ◌∷◌, length, Option, Some, None, arith, refl, sym, ap, ◌∙◌, inl, inr}
use Rattle.std.proofs.Math.ListN.{length-set}
use Rattle.std.proofs.lemmas.Bool.{cases_eq, eq-eqb, eqb-true, ne_eqb}
use Rattle.std.proofs.lemmas.List.{get_or-set_other, get_or-set_same}
use Rattle.std.specs.Prelude.{slice_index_or, slice_set, ◌==◌}
use Rattle.cmwq_types.specs.Contents.{ScenarioContents}
use Rattle.cmwq_types.specs.declared.instr.Instr.{Instr}
use Rattle.cmwq_types.specs.declared.reply.Reply.{Reply}
use Rattle.cmwq_table.specs.Counts.{is_some_work}
use Rattle.cmwq_table.specs.State.{State, pending_at, running_at}
use Rattle.cmwq_table.specs.declared.state.Pending.{Pending}
use Rattle.cmwq_table.specs.declared.state.Running.{Running}
use Rattle.cmwq_ledger.specs.Contents.{LedgerContents}
use Rattle.cmwq_table.specs.Told.{cancelled_by, finished_by, started_by}
use Rattle.cmwq_ledger.specs.Ledger.{account_at, account_or_new, all_opened, all_pending_ticked, all_running_ticked, ledger_by, ledger_cancelled, ledger_finished, ledger_passed, ledger_started, ledger_ticked, lets_pass, pending_ticked, running_ticked, without_account}
use Rattle.cmwq_ledger.specs.declared.account.Account.{Account}

-- Lists.

pub set-at : {A : Type 0} (xs : List (Option A)) (v w : ℕ) (x : Option A) → w < length xs → slice_index_or (slice_set xs v x) w None ≡ cond (v == w) x (slice_index_or xs w None)
set-at xs v w x there =
    elim (cases_eq v w) [
      | inl e ↦
          ap (λ (k : ℕ). slice_index_or (slice_set xs v x) k None) (sym e) ∙ get_or-set_same xs v x None (omega arith)
          ∙ ap (λ (b : Bool). cond b x (slice_index_or xs w None)) (sym (eq-eqb v w e))
      | inr ne ↦ get_or-set_other xs v w x None (λ e. ne (sym e)) ∙ ap (λ (b : Bool). cond b x (slice_index_or xs w None)) (sym (ne_eqb v w ne))
    ]

gone-at : {A : Type 0} (xs : List (Option A)) (v : ℕ) → slice_index_or (slice_set xs v None) v None ≡ None
gone-at [] v = refl
gone-at (y ∷ ys) zero = refl
gone-at (y ∷ ys) (suc v) = gone-at ys v

pub unset-at : {A : Type 0} (xs : List (Option A)) (v w : ℕ) → slice_index_or (slice_set xs v None) w None ≡ cond (v == w) None (slice_index_or xs w None)
unset-at xs v w =
    elim (cases_eq v w) [
      | inl e ↦
          ap (λ (k : ℕ). slice_index_or (slice_set xs v None) k None) (sym e) ∙ gone-at xs v
          ∙ ap (λ (b : Bool). cond b None (slice_index_or xs w None)) (sym (eq-eqb v w e))
      | inr ne ↦ get_or-set_other xs v w None None (λ e. ne (sym e)) ∙ ap (λ (b : Bool). cond b None (slice_index_or xs w None)) (sym (ne_eqb v w ne))
    ]

-- A tick.

none-pending : (o : Option Pending) → None ≡ pending_ticked o None
none-pending (Some p) = refl
none-pending None = refl

none-running : (S : ScenarioContents) (s : State) (w : ℕ) (o : Option Running) → None ≡ running_ticked S s w o None
none-running S s w (Some r) = refl
none-running S s w None = refl

pending-from : (s : State) (from w : ℕ) (accounts : List (Option Account))
    → account_at (all_pending_ticked s from accounts) w ≡ pending_ticked (pending_at s (from + w)) (account_at accounts w)
pending-from s from w [] = none-pending (pending_at s (from + w))
pending-from s from zero (a ∷ accounts) = (let same : from ≡ from + 0 = omega arith in ap (λ (v : ℕ). pending_ticked (pending_at s v) a) same)
pending-from s from (suc w) (a ∷ accounts) =
    let same : from + 1 + w ≡ from + suc w = omega arith in
    pending-from s (from + 1) w accounts ∙ ap (λ (v : ℕ). pending_ticked (pending_at s v) (account_at accounts w)) same

running-from : (S : ScenarioContents) (s : State) (from w : ℕ) (accounts : List (Option Account))
    → account_at (all_running_ticked S s from accounts) w ≡ running_ticked S s (from + w) (running_at s (from + w)) (account_at accounts w)
running-from S s from w [] = none-running S s (from + w) (running_at s (from + w))
running-from S s from zero (a ∷ accounts) = (let same : from ≡ from + 0 = omega arith in ap (λ (v : ℕ). running_ticked S s v (running_at s v) a) same)
running-from S s from (suc w) (a ∷ accounts) =
    let same : from + 1 + w ≡ from + suc w = omega arith in
    running-from S s (from + 1) w accounts ∙ ap (λ (v : ℕ). running_ticked S s v (running_at s v) (account_at accounts w)) same

pending-long : (s : State) (from : ℕ) (accounts : List (Option Account)) → length (all_pending_ticked s from accounts) ≡ length accounts
pending-long s from [] = refl
pending-long s from (a ∷ accounts) = ap suc (pending-long s (from + 1) accounts)

running-long : (S : ScenarioContents) (s : State) (from : ℕ) (accounts : List (Option Account)) → length (all_running_ticked S s from accounts) ≡ length accounts
running-long S s from [] = refl
running-long S s from (a ∷ accounts) = ap suc (running-long S s (from + 1) accounts)

-- the account of each half once time has passed, if it does
abbrev pub pending_passed : State → State → LedgerContents → ℕ → Option Account
pending_passed s t L w = cond (lets_pass s t) (pending_ticked (pending_at s w) (account_at L.pending w)) (account_at L.pending w)

abbrev pub running_passed : ScenarioContents → State → State → LedgerContents → ℕ → Option Account
running_passed S s t L w = cond (lets_pass s t) (running_ticked S s w (running_at s w) (account_at L.running w)) (account_at L.running w)

module _ (S : ScenarioContents) (s t : State) (L : LedgerContents) where
  pub passed-pending : (w : ℕ) → account_at (ledger_passed S s t L).pending w ≡ pending_passed s t L w
  passed-pending w = passed-if (lets_pass s t) where
    same : 0 + w ≡ w
    same = omega arith

    passed-if : (b : Bool) → account_at (cond b (ledger_ticked S s L) L).pending w ≡ cond b (pending_ticked (pending_at s w) (account_at L.pending w)) (account_at L.pending w)
    passed-if true = pending-from s 0 w L.pending ∙ ap (λ (v : ℕ). pending_ticked (pending_at s v) (account_at L.pending w)) same
    passed-if false = refl

  pub passed-running : (w : ℕ) → account_at (ledger_passed S s t L).running w ≡ running_passed S s t L w
  passed-running w = passed-if (lets_pass s t) where
    same : 0 + w ≡ w
    same = omega arith

    passed-if : (b : Bool) → account_at (cond b (ledger_ticked S s L) L).running w ≡ cond b (running_ticked S s w (running_at s w) (account_at L.running w)) (account_at L.running w)
    passed-if true = running-from S s 0 w L.running ∙ ap (λ (v : ℕ). running_ticked S s v (running_at s v) (account_at L.running w)) same
    passed-if false = refl

  passed-long : (length (ledger_passed S s t L).pending ≡ length L.pending) × (length (ledger_passed S s t L).running ≡ length L.running)
  passed-long = passed-if (lets_pass s t) where
    passed-if : (b : Bool) → (length (cond b (ledger_ticked S s L) L).pending ≡ length L.pending) × (length (cond b (ledger_ticked S s L) L).running ≡ length L.running)
    passed-if true = (pending-long s 0 L.pending, running-long S s 0 L.running)
    passed-if false = (refl, refl)

-- Ends and beginnings.

abbrev ended : Option ℕ → Option ℕ → Option ℕ → LedgerContents → LedgerContents
ended finished started cancelled L = ledger_cancelled cancelled (ledger_started started (ledger_finished finished L))

without-at : (o : Option ℕ) (accounts : List (Option Account)) (w : ℕ) → account_at (without_account o accounts) w ≡ cond (is_some_work o w) None (account_at accounts w)
without-at (Some v) accounts w = unset-at accounts v w
without-at None accounts w = refl

without-long : (o : Option ℕ) (accounts : List (Option Account)) → length (without_account o accounts) ≡ length accounts
without-long (Some v) accounts = length-set accounts v None
without-long None accounts = refl

ended-pending : (f st c : Option ℕ) (L : LedgerContents) (w : ℕ)
    → account_at (ended f st c L).pending w ≡ cond (is_some_work c w) None (cond (is_some_work st w) None (account_at L.pending w))
ended-pending f (Some v) c L w = without-at c (slice_set L.pending v None) w ∙ ap (cond (is_some_work c w) None) (unset-at L.pending v w)
ended-pending f None c L w = without-at c L.pending w

here-if : (v w : ℕ) (b : Bool) (accounts : List (Option Account)) (other : Option Account) → (v == w) ≡ b → cond b (account_at accounts v) other ≡ cond b (account_at accounts w) other
here-if v w true accounts other e = (let same : v ≡ w = eqb-true v w e in ap (account_at accounts) same)
here-if v w false accounts other e = refl

ended-running : (f st c : Option ℕ) (L : LedgerContents) (w : ℕ) → w < length L.running
    → account_at (ended f st c L).running w ≡ cond (is_some_work st w) (account_at L.pending w) (cond (is_some_work f w) None (account_at L.running w))
ended-running f (Some v) c L w there =
    set-at (without_account f L.running) v w (account_at L.pending v) (omega (arith, without-long f L.running))
    ∙ ap (cond (v == w) (account_at L.pending v)) (without-at f L.running w)
    ∙ here-if v w (v == w) L.pending (cond (is_some_work f w) None (account_at L.running w)) refl
ended-running f None c L w there = without-at f L.running w

ended-long : (f st c : Option ℕ) (L : LedgerContents) → (length (ended f st c L).pending ≡ length L.pending) × (length (ended f st c L).running ≡ length L.running)
ended-long f (Some v) c L =
    (without-long c (slice_set L.pending v None) ∙ length-set L.pending v None, length-set (without_account f L.running) v (account_at L.pending v) ∙ without-long f L.running)
ended-long f None c L = (without-long c L.pending, without-long f L.running)

opened-from : (s : State) (from w : ℕ) (accounts : List (Option Account)) → w < length accounts
    → account_at (all_opened s from accounts) w ≡ account_or_new s.time (pending_at s (from + w)) (account_at accounts w)
opened-from s from w [] there = absurd (omega arith)
opened-from s from zero (a ∷ accounts) there = (let same : from ≡ from + 0 = omega arith in ap (λ (v : ℕ). account_or_new s.time (pending_at s v) a) same)
opened-from s from (suc w) (a ∷ accounts) there =
    let same : from + 1 + w ≡ from + suc w = omega arith in
    opened-from s (from + 1) w accounts (omega arith) ∙ ap (λ (v : ℕ). account_or_new s.time (pending_at s v) (account_at accounts w)) same

opened-long : (s : State) (from : ℕ) (accounts : List (Option Account)) → length (all_opened s from accounts) ≡ length accounts
opened-long s from [] = refl
opened-long s from (a ∷ accounts) = ap suc (opened-long s (from + 1) accounts)

-- An instruction.

module _ (S : ScenarioContents) (L : LedgerContents) (s : State) (i : Instr) (after : State × Reply) where
  abbrev passed : LedgerContents
  passed = ledger_passed S s after.0 L

  abbrev left : LedgerContents
  left = ended (finished_by after.1) (started_by after.1) (cancelled_by i after.1) passed

  pub by-long : (length (ledger_by S L s i after).pending ≡ length L.pending) × (length (ledger_by S L s i after).running ≡ length L.running)
  by-long =
      let ends = ended-long (finished_by after.1) (started_by after.1) (cancelled_by i after.1) passed in
      let passes = passed-long S s after.0 L in
      (opened-long after.0 0 left.pending ∙ ends.0 ∙ passes.0, ends.1 ∙ passes.1)

  pub by-pending : (w : ℕ) → w < length L.pending → account_at (ledger_by S L s i after).pending w
      ≡ account_or_new after.0.time (pending_at after.0 w) (cond (is_some_work (cancelled_by i after.1) w) None (cond (is_some_work (started_by after.1) w) None (pending_passed s after.0 L w)))
  by-pending w there =
      let same : 0 + w ≡ w = omega arith in
      let ends = ended-long (finished_by after.1) (started_by after.1) (cancelled_by i after.1) passed in
      let passes = passed-long S s after.0 L in
      opened-from after.0 0 w left.pending (omega (arith, ends.0, passes.0))
      ∙ ap (λ (v : ℕ). account_or_new after.0.time (pending_at after.0 v) (account_at left.pending w)) same
      ∙ ap (account_or_new after.0.time (pending_at after.0 w)) (ended-pending (finished_by after.1) (started_by after.1) (cancelled_by i after.1) passed w)
      ∙ ap (λ (a : Option Account). account_or_new after.0.time (pending_at after.0 w) (cond (is_some_work (cancelled_by i after.1) w) None (cond (is_some_work (started_by after.1) w) None a))) (passed-pending S s after.0 L w)

  pub by-running : (w : ℕ) → w < length L.running → account_at (ledger_by S L s i after).running w
      ≡ cond (is_some_work (started_by after.1) w) (pending_passed s after.0 L w) (cond (is_some_work (finished_by after.1) w) None (running_passed S s after.0 L w))
  by-running w there =
      let passes = passed-long S s after.0 L in
      ended-running (finished_by after.1) (started_by after.1) (cancelled_by i after.1) passed w (omega (arith, passes.1))
      ∙ ap (λ (a : Option Account). cond (is_some_work (started_by after.1) w) a (cond (is_some_work (finished_by after.1) w) None (account_at passed.running w))) (passed-pending S s after.0 L w)
      ∙ ap (λ (a : Option Account). cond (is_some_work (started_by after.1) w) (pending_passed s after.0 L w) (cond (is_some_work (finished_by after.1) w) None a)) (passed-running S s after.0 L w)
