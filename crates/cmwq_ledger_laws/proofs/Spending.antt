-- What an account has of burning and sleeping, as the instance's body says.
use Rattle.std.proofs.Common.{◌≡◌, ℕ, zero, suc, ◌+◌, ◌≤◌, Bool, true, false, not, cond, ◌&&◌, List, [], ◌∷◌, length, replicate, Option, Some, None, All, arith, refl, sym, ap, ◌∙◌, subst, inl, inr}
use Rattle.std.proofs.lemmas.Bool.{cases_lt, eq-eqb, le-ltb}
use Rattle.std.proofs.lemmas.List.{get_or_past}
use Rattle.std.proofs.lemmas.List.Elements.{All-append, All-nil}
use Rattle.std.specs.Prelude.{is_some, slice_index_or}
use Rattle.cmwq_types.specs.Contents.{ScenarioContents}
use Rattle.cmwq_types.specs.Faults.{IsValid}
use Rattle.cmwq_types.specs.declared.instr.Instr.{Instr}
use Rattle.cmwq_types.specs.declared.reply.Mode.{Mode}
use Rattle.cmwq_types.specs.declared.reply.Mode.TheVariants.{Runnable, Asleep}
use Rattle.cmwq_types.specs.declared.reply.Place.{Place}
use Rattle.cmwq_types.specs.declared.reply.Place.TheVariants as place
use Rattle.cmwq_types.specs.declared.reply.Reply.{Reply}
use Rattle.cmwq_table.specs.Counts.{burns, is_runnable, is_some_work}
use Rattle.cmwq_table.specs.Laws.{reply_to, state_after}
use Rattle.cmwq_table.specs.State.{State, pending_at, running_at, start}
use Rattle.cmwq_table.specs.Table.{after_all, table}
use Rattle.cmwq_table.specs.declared.state.Pending.{Pending}
use Rattle.cmwq_table.specs.declared.state.Running.{Running}
use Rattle.cmwq_picture.specs.Picture.{mode_sign, place_sign, run_sign}
use Rattle.cmwq_picture.specs.declared.cell.Sign.TheVariants as sign
use Rattle.cmwq_burning.specs.Burning.{burns_before, burns_of_body, finishes_work}
use Rattle.cmwq_burning.proofs.Bodies as bodies
use Rattle.cmwq_burning.proofs.Happening.{Happens, table-does}
use Rattle.cmwq_burning.proofs.Telling.{Begins, Ends, GoesOn, Told, table-told}
use Rattle.cmwq_ledger.specs.Contents.{LedgerContents}
use Rattle.cmwq_table.specs.Told.{cancelled_by, finished_by, started_by}
use Rattle.cmwq_ledger.specs.Ledger.{account_at, account_or_new, empty_ledger, ledger_after, ledger_from, ledger_passed, lets_pass, line_of_ended, lines_ending_at, lines_from, one_tick_more, pending_ticked, running_ticked, still_lines}
use Rattle.cmwq_ledger.specs.declared.account.Account.{Account}
use Rattle.cmwq_ledger.specs.declared.account.Ticks.{Ticks}
use Rattle.cmwq_ledger.specs.declared.times_line.Fate.TheVariants.{Cancelled, Finished, StillRunning}
use Rattle.cmwq_ledger.specs.declared.times_line.TimesLine.{TimesLine}
use Rattle.cmwq_ledger_laws.specs.Laws.{FitsFate, HasNotRun}
use Rattle.cmwq_ledger_laws.specs.Sleeps.{sleeps_before, sleeps_of_body}
use Rattle.cmwq_ledger_laws.proofs.Agreeing.{IsKept, next-kept}
use Rattle.cmwq_ledger_laws.proofs.Halves.{finished-tells, started-tells}
use Rattle.cmwq_ledger_laws.proofs.LineLemmas.{EndedHolds, LineHolds, PendingHolds, ended-holds, still-holds}
use Rattle.cmwq_ledger_laws.proofs.SleepBodies as sleeps
use Rattle.cmwq_ledger_laws.proofs.SleepTelling.{BeginsAwake, IsUp, SleepTold, SleepsOn, burning-awake, is_asleep, table-sleeps}
use Rattle.cmwq_ledger_laws.proofs.Sleeping.{still}
use Rattle.cmwq_ledger_laws.proofs.Stepping.{by-pending, by-running, passed-pending, passed-running, pending_passed, running_passed}
use Rattle.cmwq_ledger_laws.proofs.Ticking.{sign-burned}

-- An instance that is pending has neither run nor slept.

abbrev IsFresh : Option Account → Type 0
IsFresh (Some a) = HasNotRun a.ticks
IsFresh None = Unit {0}

place-fresh : (at : Place) (t : Ticks) → HasNotRun t → HasNotRun (one_tick_more (place_sign at) t)
place-fresh (place.Timer due cpu) t fresh = fresh
place-fresh (place.Inactive pool) t fresh = fresh
place-fresh (place.Listed pool) t fresh = fresh
place-fresh (place.Deferred pool) t fresh = fresh

ticked-fresh : (o : Option Pending) (a : Option Account) → IsFresh a → IsFresh (pending_ticked o a)
ticked-fresh (Some p) (Some a) fresh = place-fresh p.place a.ticks fresh
ticked-fresh (Some p) None fresh = tt
ticked-fresh None a fresh = fresh

passed-fresh : (s t : State) (L : LedgerContents) (w : ℕ) → IsFresh (account_at L.pending w) → IsFresh (pending_passed s t L w)
passed-fresh s t L w fresh = fresh-if (lets_pass s t) where
  fresh-if : (b : Bool) → IsFresh (cond b (pending_ticked (pending_at s w) (account_at L.pending w)) (account_at L.pending w))
  fresh-if true = ticked-fresh (pending_at s w) (account_at L.pending w) fresh
  fresh-if false = fresh

none-fresh : (b : Bool) (a : Option Account) → IsFresh a → IsFresh (cond b None a)
none-fresh true a fresh = tt
none-fresh false a fresh = fresh

opened-fresh : (time : ℕ) (o : Option Pending) (a : Option Account) → IsFresh a → IsFresh (account_or_new time o a)
opened-fresh time (Some p) (Some a) fresh = fresh
opened-fresh time (Some p) None fresh = (refl, refl, refl)
opened-fresh time None a fresh = fresh

-- One that runs has burned what stands before its place, but for what it has left; and so it has slept.

abbrev HasSpent : ScenarioContents → ℕ → ℕ → Option Running → Option Account → Type 0
HasSpent S time w (Some r) (Some a) =
    (a.ticks.burned + r.left ≡ burns_before S w r.pc) × (a.ticks.slept + still time r.mode ≡ sleeps_before S w r.pc)
HasSpent S time w (Some r) None = Unit {0}
HasSpent S time w None a = Unit {0}

none-spent : (S : ScenarioContents) (time w : ℕ) (o : Option Running) → HasSpent S time w o None
none-spent S time w (Some r) = tt
none-spent S time w None = tt

-- one begins, of whose pending half this was the account
begun-spent : (S : ScenarioContents) (time w : ℕ) (o : Option Running) (a : Option Account) → IsFresh a → Begins o → BeginsAwake o → HasSpent S time w o a
begun-spent S time w (Some r) (Some a) fresh begins awake =
    let none_burned : burns_before S w r.pc ≡ 0 = ap (burns_before S w) begins.pc in
    let none_slept : sleeps_before S w r.pc ≡ 0 = ap (sleeps_before S w) awake.1 in
    let up : still time r.mode ≡ 0 = ap (still time) awake.0 in
    (nothing a.ticks.burned r.left (burns_before S w r.pc) fresh.1 begins.left none_burned, nothing a.ticks.slept (still time r.mode) (sleeps_before S w r.pc) fresh.2 up none_slept)
  where
    nothing : (a b c : ℕ) → a ≡ 0 → b ≡ 0 → c ≡ 0 → a + b ≡ c
    nothing a b c p q r = omega arith
begun-spent S time w (Some r) None fresh begins awake = tt
begun-spent S time w None a fresh begins awake = tt

-- A tick of one that runs.

slept-if : (mode : Mode) (t : Ticks) (b : Bool) → (b ≡ true → is_runnable mode ≡ true) → (one_tick_more (cond b sign.Burns (mode_sign mode)) t).slept ≡ t.slept + cond (not (is_runnable mode)) 1 0
slept-if Runnable t true awake = omega arith
slept-if (Asleep until) t true awake = absurd (cc (awake refl))
slept-if Runnable t false awake = omega arith
slept-if (Asleep until) t false awake = refl

adds-up : (m more n left later before behind : ℕ) → more ≡ m + n → m + left ≡ before → left + behind ≡ n + later + before → more + later ≡ behind
adds-up m more n left later before behind e p q = omega arith

goes-on : (S : ScenarioContents) (s : State) (w time : ℕ) (b : Bool) (o q : Option Running) (a : Option Account) → is_some a ≡ is_some o → running_at s w ≡ o
    → GoesOn S w (cond (b && burns S s w o) 1 0) o q → SleepsOn S w (cond (b && is_asleep o) 1 0) s.time time o q → HasSpent S s.time w o a
    → HasSpent S time w q (cond b (running_ticked S s w o a) a)
goes-on S s w time true (Some r) (Some q) (Some a) there is burned_on slept_on spent =
    let t = a.ticks in
    let after = one_tick_more (run_sign S s w r) t in (
      adds-up t.burned after.burned (cond (burns S s w (Some r)) 1 0) r.left q.left (burns_before S w r.pc) (burns_before S w q.pc) (sign-burned r.mode t (burns S s w (Some r))) spent.0 burned_on,
      adds-up t.slept after.slept (cond (not (is_runnable r.mode)) 1 0) (still s.time r.mode) (still time q.mode) (sleeps_before S w r.pc) (sleeps_before S w q.pc)
          (slept-if r.mode t (burns S s w (Some r)) (burning-awake S s w r is)) spent.1 slept_on,
    )
goes-on S s w time false (Some r) (Some q) (Some a) there is burned_on slept_on spent =
    let t = a.ticks in (
      adds-up t.burned t.burned 0 r.left q.left (burns_before S w r.pc) (burns_before S w q.pc) (omega arith) spent.0 burned_on,
      adds-up t.slept t.slept 0 (still s.time r.mode) (still time q.mode) (sleeps_before S w r.pc) (sleeps_before S w q.pc) (omega arith) spent.1 slept_on,
    )
goes-on S s w time b (Some r) None a there is burned_on slept_on spent = absurd burned_on
goes-on S s w time b (Some r) (Some q) None there is burned_on slept_on spent = cc
goes-on S s w time b None q (Some a) there is burned_on slept_on spent = cc
goes-on S s w time true None q None there is burned_on slept_on spent = none-spent S time w q
goes-on S s w time false None q None there is burned_on slept_on spent = none-spent S time w q

then-spent : (S : ScenarioContents) (time w : ℕ) (o : Option Running) (st f : Bool) (pend run : Option Account) → (st ≡ true → HasSpent S time w o pend) → (f ≡ false → HasSpent S time w o run)
    → HasSpent S time w o (cond st pend (cond f None run))
then-spent S time w o true f pend run begun on = begun refl
then-spent S time w o false true pend run begun on = none-spent S time w o
then-spent S time w o false false pend run begun on = on refl

-- One that finishes.

stands-at-end : (S : ScenarioContents) (s t : State) (r : Reply) (w : ℕ) → Happens S s t.running t.time r → finishes_work w r ≡ true → lets_pass s t ≡ false
stands-at-end S s t r w (Happens.nothing same stands silent) e = absurd (cc ((silent w).1, e))
stands-at-end S s t r w (Happens.passes settled ticked later silent) e = absurd (cc ((silent w).1, e))
stands-at-end S s t r w (Happens.moves v event q there set stands told changes) e = le-ltb s.time t.time (omega arith)

ended-fits : (S : ScenarioContents) → IsValid S → (s : State) (w time : ℕ) (o : Option Running) (a : Option Account) → HasSpent S s.time w o a → Ends S w o → IsUp s.time o
    → LineHolds (λ line. FitsFate S line.work.0 line.fate line.account.ticks) time Finished w a
ended-fits S valid s w time (Some r) (Some a) spent ended up = (
  whole a.ticks.burned r.left (burns_before S w r.pc) (burns_of_body S w) spent.0 ended.left (bodies.before-end S valid w r.pc ended.finish),
  whole a.ticks.slept (still s.time r.mode) (sleeps_before S w r.pc) (sleeps_of_body S w) spent.1 up (sleeps.before-end S valid w r.pc ended.finish),
)
  where
    whole : (a b c d : ℕ) → a + b ≡ c → b ≡ 0 → c ≡ d → a ≡ d
    whole a b c d p q r = omega arith
ended-fits S valid s w time (Some r) None spent ended up = tt
ended-fits S valid s w time None a spent ended up = absurd ended

-- Along a run.

pub record AreSpent (S : ScenarioContents) (s : State) (L : LedgerContents) : Type 0 where
  pub fresh : (w : ℕ) → IsFresh (account_at L.pending w)
  pub spent : (w : ℕ) → HasSpent S s.time w (running_at s w) (account_at L.running w)

abbrev pub Fits : ScenarioContents → TimesLine → Type 0
Fits S line = FitsFate S line.work.0 line.fate line.account.ticks

past-fresh : (w : ℕ) (accounts : List (Option Account)) → length accounts ≤ w → IsFresh (account_at accounts w)
past-fresh w accounts past = subst IsFresh (sym (get_or_past accounts w None past)) tt

past-spent : (S : ScenarioContents) (time w : ℕ) (o : Option Running) (accounts : List (Option Account)) → length accounts ≤ w → HasSpent S time w o (account_at accounts w)
past-spent S time w o accounts past = subst (HasSpent S time w o) (sym (get_or_past accounts w None past)) (none-spent S time w o)

cond-false : {A : Type 0} (b : Bool) (x y : A) → b ≡ false → cond b x y ≡ y
cond-false true x y e = cc
cond-false false x y e = refl

module _ (S : ScenarioContents) (valid : IsValid S) (s : State) (L : LedgerContents) (i : Instr) (kept : IsKept S s L) (spent : AreSpent S s L) where
  abbrev t : State
  t = state_after S s i

  abbrev r : Reply
  r = reply_to S s i

  next-fresh : (w : ℕ) → IsFresh (account_at (ledger_after S L s i).pending w)
  next-fresh w = elim (cases_lt w (length S.works)) [
    | inl there ↦
        subst IsFresh (sym (by-pending S L s i (table S s i) w (omega (arith, kept.pending_accounts))))
        (opened-fresh t.time (pending_at t w) (cond (is_some_work (cancelled_by i r) w) None (cond (is_some_work (started_by r) w) None (pending_passed s t L w)))
        (none-fresh (is_some_work (cancelled_by i r) w) (cond (is_some_work (started_by r) w) None (pending_passed s t L w))
        (none-fresh (is_some_work (started_by r) w) (pending_passed s t L w) (passed-fresh s t L w (spent.fresh w)))))
    | inr past ↦ (let then : IsKept S t (ledger_after S L s i) = next-kept S s L i kept in past-fresh w (ledger_after S L s i).pending (omega (arith, then.pending_accounts)))
  ]

  next-spent : (w : ℕ) → HasSpent S t.time w (running_at t w) (account_at (ledger_after S L s i).running w)
  next-spent w = elim (cases_lt w (length S.works)) [
    | inl there ↦
        let told : Told S w (cond (lets_pass s t && burns S s w (running_at s w)) 1 0) (running_at s w) (running_at t w) r = table-told S s i w kept.in_pools in
        let sleeps_told : SleepTold S w (cond (lets_pass s t && is_asleep (running_at s w)) 1 0) s.time t.time (running_at s w) (running_at t w) r = table-sleeps S s i w kept.in_pools in
        subst (HasSpent S t.time w (running_at t w)) (sym (by-running S L s i (table S s i) w (omega (arith, kept.running_accounts))))
        (then-spent S t.time w (running_at t w) (is_some_work (started_by r) w) (is_some_work (finished_by r) w) (pending_passed s t L w) (running_passed S s t L w)
        (λ st. begun-spent S t.time w (running_at t w) (pending_passed s t L w) (passed-fresh s t L w (spent.fresh w)) (told.starts (sym (started-tells r w) ∙ st)) (sleeps_told.starts (sym (started-tells r w) ∙ st)))
        (λ f. goes-on S s w t.time (lets_pass s t) (running_at s w) (running_at t w) (account_at L.running w) (kept.running w) refl (told.goes_on (sym (finished-tells r w) ∙ f)) (sleeps_told.goes_on (sym (finished-tells r w) ∙ f)) (spent.spent w)))
    | inr past ↦ (let then : IsKept S t (ledger_after S L s i) = next-kept S s L i kept in past-spent S t.time w (running_at t w) (ledger_after S L s i).running (omega (arith, then.running_accounts)))
  ]

  finished-fits : (o : Option ℕ) → finished_by r ≡ o → EndedHolds (Fits S) t.time Finished o (ledger_passed S s t L).running
  finished-fits (Some w) is =
      let tells : finishes_work w r ≡ true = sym (finished-tells r w) ∙ ap (λ (o : Option ℕ). is_some_work o w) is ∙ eq-eqb w w refl in
      let told : Told S w (cond (lets_pass s t && burns S s w (running_at s w)) 1 0) (running_at s w) (running_at t w) r = table-told S s i w kept.in_pools in
      let sleeps_told : SleepTold S w (cond (lets_pass s t && is_asleep (running_at s w)) 1 0) s.time t.time (running_at s w) (running_at t w) r = table-sleeps S s i w kept.in_pools in
      let stands : account_at (ledger_passed S s t L).running w ≡ account_at L.running w =
      passed-running S s t L w
      ∙ cond-false (lets_pass s t) (running_ticked S s w (running_at s w) (account_at L.running w)) (account_at L.running w) (stands-at-end S s t r w (table-does S s i) tells)
      in
      subst (LineHolds (Fits S) t.time Finished w) (sym stands)
      (ended-fits S valid s w t.time (running_at s w) (account_at L.running w) (spent.spent w) (told.finishes tells) (sleeps_told.finishes tells))
  finished-fits None is = tt

  fresh-line : (w : ℕ) (a : Option Account) → IsFresh a → LineHolds (Fits S) t.time Cancelled w a
  fresh-line w (Some a) fresh = fresh
  fresh-line w None fresh = tt

  cancelled-fits : (o : Option ℕ) → EndedHolds (Fits S) t.time Cancelled o (ledger_passed S s t L).pending
  cancelled-fits (Some w) =
      fresh-line w (account_at (ledger_passed S s t L).pending w) (subst IsFresh (sym (passed-pending S s t L w)) (passed-fresh s t L w (spent.fresh w)))
  cancelled-fits None = tt

  lines-fit : All (Fits S) (lines_ending_at S L s i)
  lines-fit =
      All-append (Fits S) (line_of_ended t.time Finished (finished_by r) (ledger_passed S s t L).running) (line_of_ended t.time Cancelled (cancelled_by i r) (ledger_passed S s t L).pending)
      (ended-holds (Fits S) t.time Finished (finished_by r) (ledger_passed S s t L).running (finished-fits (finished_by r) refl))
      (ended-holds (Fits S) t.time Cancelled (cancelled_by i r) (ledger_passed S s t L).pending (cancelled-fits (cancelled_by i r)))

pub all-spent : (S : ScenarioContents) → IsValid S → (s : State) (L : LedgerContents) (instrs : List Instr) → IsKept S s L → AreSpent S s L
    → AreSpent S (after_all S s instrs) (ledger_from S L s instrs) × All (Fits S) (lines_from S L s instrs)
all-spent S valid s L [] kept spent = (spent, All-nil (Fits S))
all-spent S valid s L (i ∷ instrs) kept spent =
    let t = state_after S s i in
    let M = ledger_after S L s i in
    let then : AreSpent S t M = record { fresh = next-fresh S valid s L i kept spent; spent = next-spent S valid s L i kept spent } in
    let rest = all-spent S valid t M instrs (next-kept S s L i kept) then in
    (rest.0, All-append (Fits S) (lines_ending_at S L s i) (lines_from S M t instrs) (lines-fit S valid s L i kept spent) rest.1)

still-running : (S : ScenarioContents) (time w : ℕ) (a : Option Account) → LineHolds (Fits S) time StillRunning w a
still-running S time w (Some a) = tt
still-running S time w None = tt

still-pending : (S : ScenarioContents) (time w : ℕ) (o : Option Pending) (a : Option Account) → IsFresh a → PendingHolds (Fits S) time w o a
still-pending S time w (Some p) (Some a) fresh = fresh
still-pending S time w (Some p) None fresh = tt
still-pending S time w None a fresh = tt

pub still-fit : (S : ScenarioContents) (s : State) (L : LedgerContents) → AreSpent S s L → All (Fits S) (still_lines S L s)
still-fit S s L spent =
    still-holds (Fits S) S L s (λ w. (still-running S s.time w (account_at L.running w), still-pending S s.time w (pending_at s w) (account_at L.pending w) (spent.fresh w)))

none-fresh_start : (n w : ℕ) → IsFresh (account_at (replicate n None) w)
none-fresh_start zero w = tt
none-fresh_start (suc n) zero = tt
none-fresh_start (suc n) (suc w) = none-fresh_start n w

none-run_start : (S : ScenarioContents) (n w v : ℕ) (a : Option Account) → HasSpent S 0 v (slice_index_or (replicate {A = Option Running} n None) w None) a
none-run_start S zero w v a = tt
none-run_start S (suc n) zero v a = tt
none-run_start S (suc n) (suc w) v a = none-run_start S n w v a

pub start-spent : (S : ScenarioContents) → AreSpent S (start S) (empty_ledger S)
start-spent S = record {
  fresh = λ w. none-fresh_start (length S.works) w;
  spent = λ w. none-run_start S (length S.works) w w (account_at (empty_ledger S).running w);
}
