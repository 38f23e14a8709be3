-- No count outgrows what was spent.
use Rattle.std.proofs.Common.{◌≡◌, ℕ, zero, suc, ◌+◌, ◌*◌, ◌≤◌, Bool, true, false, cond, List, [], ◌∷◌, length, Option, Some, None, arith, refl, replicate, sym, subst, ap, ◌∙◌, slice_index_or, slice_set}
use Rattle.std.proofs.lemmas.Bool.Decides.{nat_tests}
use Rattle.std.specs.Prelude.{nat_lt}
use Rattle.cmwq_types.specs.Contents.{ScenarioContents}
use Rattle.cmwq_types.specs.Scenario.{pool_count, queue_of}
use Rattle.cmwq_types.specs.Setting.{IsSetting}
use Rattle.cmwq_types.specs.declared.instr.Instr.{Instr}
use Rattle.cmwq_types.specs.declared.instr.Instr.TheVariants as instr
use Rattle.cmwq_types.specs.declared.reply.Refusal.{Refusal}
use Rattle.cmwq_types.specs.declared.reply.Reply.{Reply}
use Rattle.cmwq_types.specs.declared.reply.Reply.TheVariants as reply
use Rattle.cmwq_table.proofs.CounterLemmas.{effect-spent}
use Rattle.cmwq_table.specs.Counts.{burns, is_busy, is_done}
use Rattle.cmwq_table.specs.State.{State, pending_at, running_at}
use Rattle.cmwq_table.specs.Table.{answer, effect, is_free, refusal, table, target_at, yes_or_no, is_met, next_unless}
use Rattle.cmwq_table.specs.declared.state.Pending.{Pending}
use Rattle.cmwq_table.specs.declared.state.Running.{Running}
use Rattle.cmwq_ledger.specs.Books.{BooksContents, books_after, books_begun}
use Rattle.cmwq_ledger.specs.Bounds.{AreBooksWithin, AreCountsWithin, AreQueuesWithin, AreTotalsWithin, AreWithin, IsLedgerWithin, IsQueueWithin, IsAccountWithin}
use Rattle.cmwq_ledger.specs.Contents.{LedgerContents, TotalsContents}
use Rattle.cmwq_table.specs.Told.{cancelled_by, finished_by, started_by}
use Rattle.cmwq_ledger.specs.Ledger.{account_at, account_or_new, all_opened, ledger_by, ledger_finished, ledger_moved, ledger_started, ledger_ticked, lines_by, without_account}
use Rattle.cmwq_ledger.specs.Totals.{burner_counted, burners_counted, for_work, idle_counted, instances_counted, is_idle_cpu, lines_counted, most_counted, nothing_counted, one_counted, one_more_at, rescued_by, totals_by, totals_ended, totals_moved, totals_ticked}
use Rattle.cmwq_ledger.specs.declared.account.Account.{Account}
use Rattle.cmwq_ledger.specs.declared.queue_totals.Count.{Count}
use Rattle.cmwq_ledger.specs.declared.queue_totals.Count.TheVariants as count
use Rattle.cmwq_ledger.specs.declared.queue_totals.QueueTotals.{QueueTotals}
use Rattle.cmwq_ledger.specs.declared.times_line.TimesLine.{TimesLine}
use Rattle.cmwq_ledger.proofs.BoundLemmas.{counts-up, ledger-up, ledger-within, queues-up, totals-up}

-- what holds of each item and of one more holds of each once that is written
all-set : {A : Type 0} (P : A → Type 0) (d : A) (xs : List A) (k : ℕ) (x : A) → ((w : ℕ) → P (slice_index_or xs w d)) → P x → (w : ℕ) → P (slice_index_or (slice_set xs k x) w d)
all-set P d [] k x each here w = each w
all-set P d (y ∷ ys) zero x each here zero = here
all-set P d (y ∷ ys) zero x each here (suc w) = each (suc w)
all-set P d (y ∷ ys) (suc k) x each here zero = each zero
all-set P d (y ∷ ys) (suc k) x each here (suc w) = all-set P d ys k x (λ v. each (suc v)) here w

-- Ledgers.

set-within : (n : ℕ) (accounts : List (Option Account)) (w : ℕ) (o : Option Account) → AreWithin n accounts → IsAccountWithin n o → AreWithin n (slice_set accounts w o)
set-within n accounts w o within here = all-set (IsAccountWithin n) None accounts w o within here

without-within : (n : ℕ) (w : Option ℕ) (accounts : List (Option Account)) → AreWithin n accounts → AreWithin n (without_account w accounts)
without-within n (Some w) accounts within = set-within n accounts w None within tt
without-within n None accounts within = within

started-within : (n : ℕ) (w : Option ℕ) (L : LedgerContents) → IsLedgerWithin n L → IsLedgerWithin n (ledger_started w L)
started-within n (Some w) L within = record {
  pending = set-within n L.pending w None within.pending tt;
  running = set-within n L.running w (account_at L.pending w) within.running (within.pending w);
}
started-within n None L within = within

or_new-within : (n time : ℕ) (p : Option Pending) (o : Option Account) → IsAccountWithin n o → IsAccountWithin n (account_or_new time p o)
or_new-within n time (Some p) (Some account) within = within
or_new-within n time (Some p) None within = omega arith
or_new-within n time None o within = within

opened-within : (n : ℕ) (s : State) (w : ℕ) (accounts : List (Option Account)) → AreWithin n accounts → AreWithin n (all_opened s w accounts)
opened-within n s w [] within k = within k
opened-within n s w (o ∷ os) within zero = or_new-within n s.time (pending_at s w) o (within zero)
opened-within n s w (o ∷ os) within (suc k) = opened-within n s (w + 1) os (λ v. within (suc v)) k

moved-within : (n : ℕ) (L : LedgerContents) (t : State) (i : Instr) (r : Reply) → IsLedgerWithin n L → IsLedgerWithin n (ledger_moved L t i r)
moved-within n L t i r within =
    let finished : IsLedgerWithin n (ledger_finished (finished_by r) L) = record { pending = within.pending; running = without-within n (finished_by r) L.running within.running } in
    let started = started-within n (started_by r) (ledger_finished (finished_by r) L) finished in
    record {
      pending = opened-within n t 0 _ (without-within n (cancelled_by i r) (ledger_started (started_by r) (ledger_finished (finished_by r) L)).pending started.pending);
      running = started.running;
    }

-- Totals.

counted-within : (n : ℕ) (what : Count) (t : QueueTotals) → IsQueueWithin n t → IsQueueWithin (n + 1) (one_counted what t)
counted-within n count.Started t w = record { started = omega (arith, w.started); finished = omega (arith, w.finished); cancelled = omega (arith, w.cancelled); rescued = omega (arith, w.rescued); burned = omega (arith, w.burned) }
counted-within n count.Finished t w = record { started = omega (arith, w.started); finished = omega (arith, w.finished); cancelled = omega (arith, w.cancelled); rescued = omega (arith, w.rescued); burned = omega (arith, w.burned) }
counted-within n count.Cancelled t w = record { started = omega (arith, w.started); finished = omega (arith, w.finished); cancelled = omega (arith, w.cancelled); rescued = omega (arith, w.rescued); burned = omega (arith, w.burned) }
counted-within n count.Rescued t w = record { started = omega (arith, w.started); finished = omega (arith, w.finished); cancelled = omega (arith, w.cancelled); rescued = omega (arith, w.rescued); burned = omega (arith, w.burned) }
counted-within n count.Burned t w = record { started = omega (arith, w.started); finished = omega (arith, w.finished); cancelled = omega (arith, w.cancelled); rescued = omega (arith, w.rescued); burned = omega (arith, w.burned) }

for_work-within : (n : ℕ) (what : Count) (S : ScenarioContents) (w : Option ℕ) (ts : List QueueTotals) → AreQueuesWithin n ts → AreQueuesWithin (n + 1) (for_work what S w ts)
for_work-within n what S (Some w) ts within =
    let q = queue_of S w in
    all-set (IsQueueWithin (n + 1)) nothing_counted ts q (one_counted what (slice_index_or ts q nothing_counted)) (queues-up n (n + 1) ts (omega arith) within) (counted-within n what (slice_index_or ts q nothing_counted) (within q))
for_work-within n what S None ts within = queues-up n (n + 1) ts (omega arith) within

one_more-within : (n k : ℕ) (counts : List ℕ) → AreCountsWithin n counts → AreCountsWithin (n + 1) (one_more_at k counts)
one_more-within n k counts within =
    let here : slice_index_or counts k 0 ≤ n = within k in
    all-set (λ (m : ℕ). m ≤ n + 1) 0 counts k (slice_index_or counts k 0 + 1) (counts-up n (n + 1) counts (omega arith) within) (omega arith)

burner-within : (n : ℕ) (S : ScenarioContents) (w : ℕ) (r : Option Running) (T : TotalsContents) → AreTotalsWithin n T → AreTotalsWithin (n + 1) (burner_counted S w r T)
burner-within n S w (Some r) T within = record {
  queues = for_work-within n count.Burned S (Some w) T.queues within.queues;
  pools = one_more-within n r.pool T.pools within.pools;
  idle = counts-up n (n + 1) T.idle (omega arith) within.idle;
}
burner-within n S w None T within = totals-up n (n + 1) T (omega arith) within

burner_if-within : (n : ℕ) (S : ScenarioContents) (w : ℕ) (r : Option Running) (T : TotalsContents) (b : Bool) → AreTotalsWithin n T → AreTotalsWithin (n + 1) (cond b (burner_counted S w r T) T)
burner_if-within n S w r T true within = burner-within n S w r T within
burner_if-within n S w r T false within = totals-up n (n + 1) T (omega arith) within

burners-within : (n : ℕ) (S : ScenarioContents) (s : State) (m : ℕ) (T : TotalsContents) → AreTotalsWithin n T → AreTotalsWithin (n + m) (burners_counted S s m T)
burners-within n S s zero T within = totals-up n (n + 0) T (omega arith) within
burners-within n S s (suc m) T within =
    totals-up (n + m + 1) (n + suc m) _ (omega arith)
    (burner_if-within (n + m) S m (running_at s m) (burners_counted S s m T) (burns S s m (running_at s m)) (burners-within n S s m T within))

idle_if-within : (n k : ℕ) (counts : List ℕ) (b : Bool) → AreCountsWithin n counts → AreCountsWithin (n + 1) (cond b (one_more_at k counts) counts)
idle_if-within n k counts true within = one_more-within n k counts within
idle_if-within n k counts false within = counts-up n (n + 1) counts (omega arith) within

idle-within : (n : ℕ) (S : ScenarioContents) (s : State) (m : ℕ) (counts : List ℕ) → AreCountsWithin n counts → AreCountsWithin (n + m) (idle_counted S s m counts)
idle-within n S s zero counts within = counts-up n (n + 0) counts (omega arith) within
idle-within n S s (suc m) counts within =
    counts-up (n + m + 1) (n + suc m) _ (omega arith) (idle_if-within (n + m) m (idle_counted S s m counts) (is_idle_cpu S s m) (idle-within n S s m counts within))

ticked-within : (n : ℕ) (S : ScenarioContents) (s : State) (T : TotalsContents) → IsSetting S → AreTotalsWithin n T → AreTotalsWithin (n + 272) (totals_ticked S s T)
ticked-within n S s T setting within =
    let burned = burners-within n S s (length S.works) T within in
    let B = burners_counted S s (length S.works) T in
    record {
      queues = queues-up (n + length S.works) (n + 272) B.queues (omega (arith, setting.works)) burned.queues;
      pools = counts-up (n + length S.works) (n + 272) B.pools (omega (arith, setting.works)) burned.pools;
      idle = counts-up (n + length S.works + S.cpus) (n + 272) _ (omega (arith, setting.works, setting.cpus)) (idle-within (n + length S.works) S s S.cpus B.idle burned.idle);
    }

lines-within : (n : ℕ) (S : ScenarioContents) (lines : List TimesLine) (ts : List QueueTotals) → AreQueuesWithin n ts → AreQueuesWithin n (lines_counted S lines ts)
lines-within n S [] ts within = within
lines-within n S (line ∷ lines) ts within =
    let q = queue_of S line.work.0 in
    let here = within q in
    lines-within n S lines _ (all-set (IsQueueWithin n) nothing_counted ts q _ within (record { started = here.started; finished = here.finished; cancelled = here.cancelled; rescued = here.rescued; burned = here.burned }))

most-within : (n : ℕ) (S : ScenarioContents) (s : State) (m : ℕ) (ts : List QueueTotals) → AreQueuesWithin n ts → AreQueuesWithin n (most_counted S s m ts)
most-within n S s zero ts within = within
most-within n S s (suc m) ts within =
    let rest = most-within n S s m ts within in
    let here = rest m in
    all-set (IsQueueWithin n) nothing_counted (most_counted S s m ts) m _ rest (record { started = here.started; finished = here.finished; cancelled = here.cancelled; rescued = here.rescued; burned = here.burned })

instances-within : (n : ℕ) (S : ScenarioContents) (i : Instr) (r : Reply) (ts : List QueueTotals) → AreQueuesWithin n ts → AreQueuesWithin (n + 4) (instances_counted S i r ts)
instances-within n S i r ts within =
    let a = for_work-within n count.Finished S (finished_by r) ts within in
    let b = for_work-within (n + 1) count.Started S (started_by r) _ a in
    let c = for_work-within (n + 1 + 1) count.Rescued S (rescued_by r) _ b in
    queues-up (n + 1 + 1 + 1 + 1) (n + 4) _ (omega arith) (for_work-within (n + 1 + 1 + 1) count.Cancelled S (cancelled_by i r) _ c)

-- An instruction.

-- the reply tells of no instance
record IsQuiet (i : Instr) (r : Reply) : Type 0 where
  finished : finished_by r ≡ None
  started : started_by r ≡ None
  rescued : rescued_by r ≡ None
  cancelled : cancelled_by i r ≡ None

-- the books after an instruction that came to this
abbrev books_by : ScenarioContents → BooksContents → State → Instr → State × Reply → BooksContents
books_by S B s i after =
    record { ledger = ledger_by S B.ledger s i after; totals = totals_by S B.totals s i after (lines_by S B.ledger s i after) }

module _ (S : ScenarioContents) (B : BooksContents) (s : State) (i : Instr) (setting : IsSetting S) where
  passed_ledger-within : (n : ℕ) (b : Bool) → IsLedgerWithin n B.ledger → IsLedgerWithin (n + 1) (cond b (ledger_ticked S s B.ledger) B.ledger)
  passed_ledger-within n true within = ledger-within S s n B.ledger within
  passed_ledger-within n false within = ledger-up n (n + 1) B.ledger (omega arith) within

  passed_totals-within : (n : ℕ) (b : Bool) → AreTotalsWithin n B.totals → AreTotalsWithin (n + 272) (cond b (totals_ticked S s B.totals) B.totals)
  passed_totals-within n true within = ticked-within n S s B.totals setting within
  passed_totals-within n false within = totals-up n (n + 272) B.totals (omega arith) within

  totals_moved-within : (n : ℕ) (T : TotalsContents) (t : State) (r : Reply) (lines : List TimesLine) → AreTotalsWithin n T → AreTotalsWithin (n + 4) (totals_moved S T t i r lines)
  totals_moved-within n T t r lines within = record {
    queues = most-within (n + 4) S t (length S.queues) _ (lines-within (n + 4) S lines _ (instances-within n S i r T.queues within.queues));
    pools = counts-up n (n + 4) T.pools (omega arith) within.pools;
    idle = counts-up n (n + 4) T.idle (omega arith) within.idle;
  }

  by-within : (n : ℕ) (after : State × Reply) → AreBooksWithin n B → AreBooksWithin (n + 512) (books_by S B s i after)
  by-within n after within = record {
    ledger = ledger-up (n + 1) (n + 512) _ (omega arith) (moved-within (n + 1) _ after.0 i after.1 (passed_ledger-within n (nat_lt s.time after.0.time) within.ledger));
    totals = totals-up (n + 272 + 4) (n + 512) _ (omega arith) (totals_moved-within (n + 272) _ after.0 after.1 (lines_by S B.ledger s i after) (passed_totals-within n (nat_lt s.time after.0.time) within.totals));
  }

  -- nothing is counted where no time passes and the reply tells of no instance
  quiet_instances : (r : Reply) (ts : List QueueTotals) → IsQuiet i r → instances_counted S i r ts ≡ ts
  quiet_instances r ts quiet = rw (quiet.finished, quiet.started, quiet.rescued, quiet.cancelled) refl

  quiet_totals : (n : ℕ) (b : Bool) (r : Reply) (lines : List TimesLine) → b ≡ false → IsQuiet i r → AreTotalsWithin n B.totals
      → AreTotalsWithin n (totals_moved S (cond b (totals_ticked S s B.totals) B.totals) s i r lines)
  quiet_totals n true r lines e quiet within = absurd cc
  quiet_totals n false r lines e quiet within = record {
    queues = most-within n S s (length S.queues) _ (lines-within n S lines _ (subst (AreQueuesWithin n) (sym (quiet_instances r B.totals.queues quiet)) within.queues));
    pools = within.pools;
    idle = within.idle;
  }

  quiet_ledger : (n : ℕ) (b : Bool) (r : Reply) → b ≡ false → IsLedgerWithin n B.ledger → IsLedgerWithin n (ledger_moved (cond b (ledger_ticked S s B.ledger) B.ledger) s i r)
  quiet_ledger n true r e within = absurd cc
  quiet_ledger n false r e within = moved-within n B.ledger s i r within

  quiet-within : (n : ℕ) (r : Reply) → IsQuiet i r → AreBooksWithin n B → AreBooksWithin n (books_by S B s i (s, r))
  quiet-within n r quiet within =
      let still : nat_lt s.time s.time ≡ false = grind (arith, nat_tests) in
      record {
        ledger = quiet_ledger n (nat_lt s.time s.time) r still within.ledger;
        totals = quiet_totals n (nat_lt s.time s.time) r (lines_by S B.ledger s i (s, r)) still quiet within.totals;
      }

refused-quiet : (i : Instr) (why : Refusal) → IsQuiet i (reply.Refused why)
refused-quiet i why = record { finished = refl; started = refl; rescued = refl; cancelled = refl }

yes_or_no-quiet : (i : Instr) (b : Bool) → IsQuiet i (yes_or_no b)
yes_or_no-quiet i true = record { finished = refl; started = refl; rescued = refl; cancelled = refl }
yes_or_no-quiet i false = record { finished = refl; started = refl; rescued = refl; cancelled = refl }

-- what is free changes nothing, and its answer tells of no instance
AsksOnly : ScenarioContents → State → Instr → Type 0
AsksOnly S s i = ((effect S s i).0 ≡ s) × IsQuiet i (effect S s i).1

met-only : (S : ScenarioContents) (s : State) (i : Instr) (met : Bool) → met ≡ true → ((next_unless S s met).0 ≡ s) × IsQuiet i (next_unless S s met).1
met-only S s i true e = (refl, record { finished = refl; started = refl; rescued = refl; cancelled = refl })
met-only S s i false e = absurd cc

asks : (S : ScenarioContents) (s : State) (i : Instr) → is_free S s i ≡ true → AsksOnly S s i
unfolding AsksOnly
asks S s (instr.Ask flush) e = (refl, yes_or_no-quiet (instr.Ask flush) (is_done S s (target_at s flush)))
asks S s instr.Busy e = (refl, yes_or_no-quiet instr.Busy (is_busy S s))
asks S s (instr.State w) e = (refl, record { finished = refl; started = refl; rescued = refl; cancelled = refl })
asks S s (instr.Until time) e = met-only S s (instr.Until time) (is_met S s (instr.Until time)) e
asks S s (instr.Wait flush) e = met-only S s (instr.Wait flush) (is_met S s (instr.Wait flush)) e
asks S s instr.Quiet e = met-only S s instr.Quiet (is_met S s instr.Quiet) e
asks S s i e = absurd cc

pub free-same : (S : ScenarioContents) (s : State) (i : Instr) → is_free S s i ≡ true → (effect S s i).0 ≡ s
free-same S s i e = (let only : ((effect S s i).0 ≡ s) × IsQuiet i (effect S s i).1 = unfold AsksOnly in asks S s i e in only.0)

-- the books have room for what was spent
abbrev HasRoomAfter : ScenarioContents → BooksContents → State → Instr → State × Reply → Type 0
HasRoomAfter S B s i after = AreBooksWithin (512 * after.0.spent) (books_by S B s i after)

module _ (S : ScenarioContents) (B : BooksContents) (s : State) (i : Instr) (setting : IsSetting S) (within : AreBooksWithin (512 * s.spent) B) where
  books-up : (m n : ℕ) (C : BooksContents) → m ≤ n → AreBooksWithin m C → AreBooksWithin n C
  books-up m n C up w = record { ledger = ledger-up m n C.ledger up w.ledger; totals = totals-up m n C.totals up w.totals }

  spent-within : (b : Bool) → is_free S s i ≡ b → HasRoomAfter S B s i (record (effect S s i).0 { spent = (effect S s i).0.spent + cond b 0 1 }, (effect S s i).1)
  spent-within true e =
      let only : ((effect S s i).0 ≡ s) × IsQuiet i (effect S s i).1 = unfold AsksOnly in asks S s i e in
      let same : s ≡ record (effect S s i).0 { spent = (effect S s i).0.spent + 0 } =
      sym (ap (λ (t : State). record t { spent = t.spent + 0 }) only.0 ∙ ap (λ (n : ℕ). record s { spent = n }) (omega arith)) in
      subst (λ (t : State). HasRoomAfter S B s i (t, (effect S s i).1)) same (quiet-within S B s i setting (512 * s.spent) (effect S s i).1 only.1 within)
  spent-within false e =
      let after : State × Reply = (record (effect S s i).0 { spent = (effect S s i).0.spent + 1 }, (effect S s i).1) in
      books-up (512 * s.spent + 512) (512 * ((effect S s i).0.spent + 1)) (books_by S B s i after) (omega (arith, effect-spent S s i setting)) (by-within S B s i setting (512 * s.spent) after within)

  answer-within : (o : Option Refusal) → HasRoomAfter S B s i (answer S s i o (effect S s i))
  answer-within (Some why) = quiet-within S B s i setting (512 * s.spent) (reply.Refused why) (refused-quiet i why) within
  answer-within None = spent-within (is_free S s i) refl

  -- what was spent bounds what is counted
  pub books-within : AreBooksWithin (512 * (table S s i).0.spent) (books_after S B s i)
  unfolding table
  books-within = answer-within (refusal S s i)

-- At the start nothing is counted.

all-replicated : {A : Type 0} (P : A → Type 0) (n : ℕ) (x : A) → P x → (w : ℕ) → P (slice_index_or (replicate n x) w x)
all-replicated P zero x here w = here
all-replicated P (suc n) x here zero = here
all-replicated P (suc n) x here (suc w) = all-replicated P n x here w

pub begun-within : (S : ScenarioContents) → AreBooksWithin 0 (books_begun S)
begun-within S = record {
  ledger = record {
    pending = all-replicated (IsAccountWithin 0) (length S.works) None tt;
    running = all-replicated (IsAccountWithin 0) (length S.works) None tt;
  };
  totals = record {
    queues = all-replicated (IsQueueWithin 0) (length S.queues) nothing_counted
        (record { started = omega arith; finished = omega arith; cancelled = omega arith; rescued = omega arith; burned = omega arith });
    pools = all-replicated (λ (m : ℕ). m ≤ 0) (pool_count S) 0 (omega arith);
    idle = all-replicated (λ (m : ℕ). m ≤ 0) S.cpus 0 (omega arith);
  };
}

-- What is still there at the end is counted among the longest alone.
pub ended-within : (n : ℕ) (S : ScenarioContents) (lines : List TimesLine) (T : TotalsContents) → AreTotalsWithin n T → AreTotalsWithin n (totals_ended S lines T)
ended-within n S lines T within = record { queues = lines-within n S lines T.queues within.queues; pools = within.pools; idle = within.idle }
