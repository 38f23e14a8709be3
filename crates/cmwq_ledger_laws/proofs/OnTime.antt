-- The counts of an account add up to the time since its instance was asked for.
use Rattle.std.proofs.Common.{◌≡◌, ℕ, zero, suc, ◌+◌, ◌≤◌, Bool, true, false, cond, List, [], ◌∷◌, length, replicate, Option, Some, None, All, arith, refl, sym, subst, inl, inr}
use Rattle.std.proofs.lemmas.Bool.{cases_lt}
use Rattle.std.proofs.lemmas.List.{get_or_past}
use Rattle.std.proofs.lemmas.List.Elements.{All-append, All-nil}
use Rattle.std.specs.Prelude.{is_some}
use Rattle.cmwq_types.specs.Contents.{ScenarioContents}
use Rattle.cmwq_types.specs.declared.instr.Instr.{Instr}
use Rattle.cmwq_types.specs.declared.reply.Reply.{Reply}
use Rattle.cmwq_table.specs.Counts.{is_some_work}
use Rattle.cmwq_table.specs.Laws.{reply_to, state_after}
use Rattle.cmwq_table.specs.State.{State, pending_at, running_at, start}
use Rattle.cmwq_table.specs.Table.{after_all, table}
use Rattle.cmwq_table.specs.declared.state.Pending.{Pending}
use Rattle.cmwq_table.specs.declared.state.Running.{Running}
use Rattle.cmwq_picture.specs.Picture.{place_sign, run_sign}
use Rattle.cmwq_picture.specs.declared.cell.Sign.{Sign}
use Rattle.cmwq_picture.specs.declared.cell.Sign.TheVariants as sign
use Rattle.cmwq_ledger.specs.Contents.{LedgerContents}
use Rattle.cmwq_table.specs.Told.{cancelled_by, finished_by, started_by}
use Rattle.cmwq_ledger.specs.Ledger.{account_at, account_or_new, all_ticks, empty_ledger, ledger_after, ledger_from, ledger_passed, lets_pass, lines_ending_at, lines_from, line_of_ended, one_tick_more, pending_ticked, running_ticked, still_lines}
use Rattle.cmwq_ledger.specs.declared.account.Account.{Account}
use Rattle.cmwq_ledger.specs.declared.account.Ticks.{Ticks}
use Rattle.cmwq_ledger.specs.declared.times_line.Fate.{Fate}
use Rattle.cmwq_ledger.specs.declared.times_line.Fate.TheVariants.{Cancelled, Finished, StillRunning}
use Rattle.cmwq_ledger_laws.specs.Laws.{IsAccountedFor}
use Rattle.cmwq_ledger_laws.proofs.Agreeing.{IsKept, next-kept}
use Rattle.cmwq_ledger_laws.proofs.LineLemmas.{EndedHolds, LineHolds, PendingHolds, ended-holds, still-holds}
use Rattle.cmwq_ledger_laws.proofs.Passing.{stood, table-passes, went}
use Rattle.cmwq_ledger_laws.proofs.Stepping.{by-pending, by-running, passed-pending, passed-running, pending_passed, running_passed}

abbrev OnTime : ℕ → Option Account → Type 0
OnTime time (Some a) = a.since + all_ticks a.ticks ≡ time
OnTime time None = Unit {0}

pub record AreOnTime (s : State) (L : LedgerContents) : Type 0 where
  pub pending : (w : ℕ) → OnTime s.time (account_at L.pending w)
  pub running : (w : ℕ) → OnTime s.time (account_at L.running w)

-- A tick.

tick-more : (sign : Sign) (t : Ticks) → all_ticks (one_tick_more sign t) ≡ all_ticks t + 1
tick-more sign.Timed t = omega arith
tick-more sign.Inactive t = omega arith
tick-more sign.Listed t = omega arith
tick-more sign.Deferred t = omega arith
tick-more sign.Waits t = omega arith
tick-more sign.Burns t = omega arith
tick-more sign.Sleeps t = omega arith

later : (since before after time : ℕ) → since + before ≡ time → after ≡ before + 1 → since + after ≡ time + 1
later since before after time e f = omega arith

pending-ticked : (time : ℕ) (o : Option Pending) (a : Option Account) → is_some a ≡ is_some o → OnTime time a → OnTime (time + 1) (pending_ticked o a)
pending-ticked time (Some p) (Some a) there on_time =
    later a.since (all_ticks a.ticks) (all_ticks (one_tick_more (place_sign p.place) a.ticks)) time on_time (tick-more (place_sign p.place) a.ticks)
pending-ticked time (Some p) None there on_time = tt
pending-ticked time None (Some a) there on_time = cc
pending-ticked time None None there on_time = tt

running-ticked : (S : ScenarioContents) (s : State) (w : ℕ) (o : Option Running) (a : Option Account) → is_some a ≡ is_some o → OnTime s.time a
    → OnTime (s.time + 1) (running_ticked S s w o a)
running-ticked S s w (Some r) (Some a) there on_time =
    later a.since (all_ticks a.ticks) (all_ticks (one_tick_more (run_sign S s w r) a.ticks)) s.time on_time (tick-more (run_sign S s w r) a.ticks)
running-ticked S s w (Some r) None there on_time = tt
running-ticked S s w None (Some a) there on_time = cc
running-ticked S s w None None there on_time = tt

passed-if : (time after : ℕ) (b : Bool) (ticked a : Option Account) → OnTime time a → (b ≡ false → after ≡ time) → (b ≡ true → OnTime after ticked) → OnTime after (cond b ticked a)
passed-if time after true ticked a on_time stands passes = passes refl
passed-if time after false ticked a on_time stands passes = subst (λ (n : ℕ). OnTime n a) (sym (stands refl)) on_time

none-on-time : (time : ℕ) (b : Bool) (a : Option Account) → OnTime time a → OnTime time (cond b None a)
none-on-time time true a on_time = tt
none-on-time time false a on_time = on_time

opened-on-time : (time : ℕ) (o : Option Pending) (a : Option Account) → OnTime time a → OnTime time (account_or_new time o a)
opened-on-time time (Some p) (Some a) on_time = on_time
opened-on-time time (Some p) None on_time = omega arith
opened-on-time time None a on_time = on_time

either-on-time : (time : ℕ) (b : Bool) (x y : Option Account) → OnTime time x → OnTime time y → OnTime time (cond b x y)
either-on-time time true x y here there = here
either-on-time time false x y here there = there

past-on-time : (time w : ℕ) (accounts : List (Option Account)) → length accounts ≤ w → OnTime time (account_at accounts w)
past-on-time time w accounts past = subst (OnTime time) (sym (get_or_past accounts w None past)) tt

-- An instruction.

module _ (S : ScenarioContents) (s : State) (L : LedgerContents) (i : Instr) (kept : IsKept S s L) (on_time : AreOnTime s L) where
  abbrev t : State
  t = state_after S s i

  abbrev r : Reply
  r = reply_to S s i

  pending-on-time : (w : ℕ) → OnTime t.time (pending_passed s t L w)
  pending-on-time w =
      passed-if s.time t.time (lets_pass s t) (pending_ticked (pending_at s w) (account_at L.pending w)) (account_at L.pending w) (on_time.pending w) (stood s t (table-passes S s i))
      (λ e. subst (λ (n : ℕ). OnTime n (pending_ticked (pending_at s w) (account_at L.pending w))) (sym (went s t (table-passes S s i) e)) (pending-ticked s.time (pending_at s w) (account_at L.pending w) (kept.pending w) (on_time.pending w)))

  running-on-time : (w : ℕ) → OnTime t.time (running_passed S s t L w)
  running-on-time w =
      passed-if s.time t.time (lets_pass s t) (running_ticked S s w (running_at s w) (account_at L.running w)) (account_at L.running w) (on_time.running w) (stood s t (table-passes S s i))
      (λ e. subst (λ (n : ℕ). OnTime n (running_ticked S s w (running_at s w) (account_at L.running w))) (sym (went s t (table-passes S s i) e)) (running-ticked S s w (running_at s w) (account_at L.running w) (kept.running w) (on_time.running w)))

  next-on-time : AreOnTime t (ledger_after S L s i)
  next-on-time =
      let then : IsKept S t (ledger_after S L s i) = next-kept S s L i kept in
      record {
        pending = λ w. elim (cases_lt w (length S.works)) [
          | inl there ↦
              subst (OnTime t.time) (sym (by-pending S L s i (table S s i) w (omega (arith, kept.pending_accounts))))
              (opened-on-time t.time (pending_at t w) (cond (is_some_work (cancelled_by i r) w) None (cond (is_some_work (started_by r) w) None (pending_passed s t L w)))
              (none-on-time t.time (is_some_work (cancelled_by i r) w) (cond (is_some_work (started_by r) w) None (pending_passed s t L w))
              (none-on-time t.time (is_some_work (started_by r) w) (pending_passed s t L w) (pending-on-time w))))
          | inr past ↦ past-on-time t.time w (ledger_after S L s i).pending (omega (arith, then.pending_accounts))
        ];
        running = λ w. elim (cases_lt w (length S.works)) [
          | inl there ↦
              subst (OnTime t.time) (sym (by-running S L s i (table S s i) w (omega (arith, kept.running_accounts))))
              (either-on-time t.time (is_some_work (started_by r) w) (pending_passed s t L w) (cond (is_some_work (finished_by r) w) None (running_passed S s t L w)) (pending-on-time w)
              (none-on-time t.time (is_some_work (finished_by r) w) (running_passed S s t L w) (running-on-time w)))
          | inr past ↦ past-on-time t.time w (ledger_after S L s i).running (omega (arith, then.running_accounts))
        ];
      }

  line-on-time : (time : ℕ) (fate : Fate) (w : ℕ) (a : Option Account) → OnTime time a → LineHolds IsAccountedFor time fate w a
  line-on-time time fate w (Some a) on = on
  line-on-time time fate w None on = tt

  finished-on-time : (o : Option ℕ) → EndedHolds IsAccountedFor t.time Finished o (ledger_passed S s t L).running
  finished-on-time (Some w) =
      line-on-time t.time Finished w (account_at (ledger_passed S s t L).running w) (subst (OnTime t.time) (sym (passed-running S s t L w)) (running-on-time w))
  finished-on-time None = tt

  cancelled-on-time : (o : Option ℕ) → EndedHolds IsAccountedFor t.time Cancelled o (ledger_passed S s t L).pending
  cancelled-on-time (Some w) =
      line-on-time t.time Cancelled w (account_at (ledger_passed S s t L).pending w) (subst (OnTime t.time) (sym (passed-pending S s t L w)) (pending-on-time w))
  cancelled-on-time None = tt

  lines-on-time : All IsAccountedFor (lines_ending_at S L s i)
  lines-on-time =
      All-append IsAccountedFor (line_of_ended t.time Finished (finished_by r) (ledger_passed S s t L).running) (line_of_ended t.time Cancelled (cancelled_by i r) (ledger_passed S s t L).pending)
      (ended-holds IsAccountedFor t.time Finished (finished_by r) (ledger_passed S s t L).running (finished-on-time (finished_by r)))
      (ended-holds IsAccountedFor t.time Cancelled (cancelled_by i r) (ledger_passed S s t L).pending (cancelled-on-time (cancelled_by i r)))

-- Runs.

pub all-on-time : (S : ScenarioContents) (s : State) (L : LedgerContents) (instrs : List Instr) → IsKept S s L → AreOnTime s L
    → AreOnTime (after_all S s instrs) (ledger_from S L s instrs) × All IsAccountedFor (lines_from S L s instrs)
all-on-time S s L [] kept on_time = (on_time, All-nil IsAccountedFor)
all-on-time S s L (i ∷ instrs) kept on_time =
    let t = state_after S s i in
    let M = ledger_after S L s i in
    let rest = all-on-time S t M instrs (next-kept S s L i kept) (next-on-time S s L i kept on_time) in
    (rest.0, All-append IsAccountedFor (lines_ending_at S L s i) (lines_from S M t instrs) (lines-on-time S s L i kept on_time) rest.1)

still-line : (time : ℕ) (fate : Fate) (w : ℕ) (a : Option Account) → OnTime time a → LineHolds IsAccountedFor time fate w a
still-line time fate w (Some a) on = on
still-line time fate w None on = tt

still-pending : (time w : ℕ) (o : Option Pending) (a : Option Account) → OnTime time a → PendingHolds IsAccountedFor time w o a
still-pending time w (Some p) (Some a) on = on
still-pending time w (Some p) None on = tt
still-pending time w None a on = tt

pub still-on-time : (S : ScenarioContents) (s : State) (L : LedgerContents) → AreOnTime s L → All IsAccountedFor (still_lines S L s)
still-on-time S s L on_time =
    still-holds IsAccountedFor S L s (λ w. (still-line s.time StillRunning w (account_at L.running w) (on_time.running w), still-pending s.time w (pending_at s w) (account_at L.pending w) (on_time.pending w)))

none-from_start : (time n w : ℕ) → OnTime time (account_at (replicate n None) w)
none-from_start time zero w = tt
none-from_start time (suc n) zero = tt
none-from_start time (suc n) (suc w) = none-from_start time n w

pub start-on-time : (S : ScenarioContents) → AreOnTime (start S) (empty_ledger S)
start-on-time S = record { pending = λ w. none-from_start 0 (length S.works) w; running = λ w. none-from_start 0 (length S.works) w }
