-- A measure of accounts, added up over lines and over those that are there: an instruction moves it from the ones to the others.
use Rattle.std.proofs.Common.{◌≡◌, ℕ, zero, suc, ◌+◌, ◌<◌, ◌≤◌, Bool, true, false, cond, List, [], length, replicate, Option, Some, None, arith, refl, sym, ap, ◌∙◌, inl, inr}
use Rattle.std.proofs.lemmas.Bool.{cases_eq, eq-eqb, ne_eqb}
use Rattle.std.proofs.lemmas.List.Sums.{sum_by-append, sum_by-cons}
use Rattle.std.specs.List.{sum_by}
use Rattle.std.specs.Prelude.{is_some, ◌==◌}
use Rattle.cmwq_types.specs.Contents.{ScenarioContents}
use Rattle.cmwq_types.specs.declared.instr.Instr.{Instr}
use Rattle.cmwq_types.specs.declared.reply.Reply.{Reply}
use Rattle.cmwq_table.specs.Counts.{is_some_work}
use Rattle.cmwq_table.specs.Laws.{reply_to, state_after}
use Rattle.cmwq_table.specs.State.{State, pending_at, running_at}
use Rattle.cmwq_table.specs.Table.{table}
use Rattle.cmwq_table.specs.declared.state.Pending.{Pending}
use Rattle.cmwq_ledger.specs.Contents.{LedgerContents}
use Rattle.cmwq_table.specs.Told.{cancelled_by, finished_by, requested_by, started_by}
use Rattle.cmwq_ledger.specs.Ledger.{account_at, account_or_new, empty_ledger, ledger_after, ledger_passed, account_line, line_of_ended, line_of_pending, lines_ending_at, new_account, still_lines, still_of}
use Rattle.cmwq_ledger.specs.declared.account.Account.{Account}
use Rattle.cmwq_ledger.specs.declared.times_line.Fate.{Fate}
use Rattle.cmwq_ledger.specs.declared.times_line.Fate.TheVariants.{Cancelled, Finished, StillPending, StillRunning}
use Rattle.cmwq_ledger.specs.declared.times_line.TimesLine.{TimesLine}
use Rattle.cmwq_ledger_laws.proofs.Agreeing.{IsKept, pending-passed-some, pends-at, running-passed-some, runs-at}
use Rattle.cmwq_ledger_laws.proofs.Counting.{IsBelow}
use Rattle.cmwq_ledger_laws.proofs.Halves.{Pends, Runs}
use Rattle.cmwq_ledger_laws.proofs.Starting.{below-from, finished-there}
use Rattle.cmwq_ledger_laws.proofs.Stepping.{by-pending, by-running, passed-pending, passed-running, pending_passed, running_passed}
use Rattle.cmwq_ledger_laws.proofs.SumLemmas.{still-sum, sum-balance, sum-both, sum-none, sum-same, sum_below}
use Rattle.cmwq_ledger_laws.proofs.Turning.{some-there}

-- what an account of the work measures
abbrev pub Measure : Type 0
Measure = ℕ → Account → ℕ

abbrev pub amount : Measure → ℕ → Option Account → ℕ
amount measure w (Some account) = measure w account
amount measure w None = 0

abbrev pub of_line : Measure → TimesLine → ℕ
of_line measure line = measure line.work.0 line.account

-- of all accounts of a ledger
abbrev pub total : Measure → LedgerContents → ℕ → ℕ
total measure L n = sum_below (λ w. amount measure w (account_at L.pending w) + amount measure w (account_at L.running w)) n

-- the same once time has passed, if it does
abbrev pub total_passed : Measure → ScenarioContents → State → State → LedgerContents → ℕ → ℕ
total_passed measure S s t L n = sum_below (λ w. amount measure w (pending_passed s t L w) + amount measure w (running_passed S s t L w)) n

-- what the new account of a work measures, if it is asked for
abbrev pub asked : Measure → ℕ → Bool → ℕ → ℕ
asked measure time b w = cond b (measure w (new_account time)) 0

-- One work.

abbrev pub if_so : Bool → ℕ → ℕ
if_so b n = cond b n 0

opened-old : (measure : Measure) (w time : ℕ) (o : Option Pending) (a : Option Account) → is_some a ≡ is_some o → amount measure w (account_or_new time o a) ≡ amount measure w a
opened-old measure w time (Some p) (Some a) e = refl
opened-old measure w time (Some p) None e = cc
opened-old measure w time None a e = refl

opened-gone : (measure : Measure) (w time : ℕ) (o : Option Pending) → is_some o ≡ false → amount measure w (account_or_new time o None) ≡ 0
opened-gone measure w time (Some p) e = cc
opened-gone measure w time None e = refl

opened-new : (measure : Measure) (w time : ℕ) (o : Option Pending) → is_some o ≡ true → amount measure w (account_or_new time o None) ≡ measure w (new_account time)
opened-new measure w time (Some p) e = refl
opened-new measure w time None e = cc

none-amount : (measure : Measure) (w : ℕ) (a : Option Account) → is_some a ≡ false → amount measure w a ≡ 0
none-amount measure w (Some a) e = cc
none-amount measure w None e = refl

opened-none : (measure : Measure) (w time : ℕ) (o : Option Pending) (a : Option Account) → is_some o ≡ true → is_some a ≡ false
    → amount measure w (account_or_new time o a) ≡ measure w (new_account time)
opened-none measure w time o (Some a) there e = cc
opened-none measure w time o None there e = opened-new measure w time o there

-- the pending half
pends-balance : (measure : Measure) (w time : ℕ) (o : Option Pending) (a : Option Account) (st c req was is : Bool) → Pends st c req was is → is_some a ≡ was → is_some o ≡ is
    → amount measure w (account_or_new time o (cond c None (cond st None a))) + (if_so c (amount measure w a) + if_so st (amount measure w a)) ≡ amount measure w a + asked measure time req w
pends-balance measure w time o a st c req was is (Pends.stays there) p q = (let e = opened-old measure w time o a (p ∙ sym q) in omega (arith, e))
pends-balance measure w time o a st c req was is Pends.begins p q = (let e = opened-gone measure w time o q in omega (arith, e))
pends-balance measure w time o a st c req was is Pends.ends p q = (let e = opened-gone measure w time o q in omega (arith, e))
pends-balance measure w time o a st c req was is Pends.comes p q =
    let e = opened-none measure w time o a q p in
    let none = none-amount measure w a p in
    omega (arith, e, none)
pends-balance measure w time o a st c req was is Pends.anew p q = (let e = opened-new measure w time o q in omega (arith, e))

-- the running half
runs-balance : (measure : Measure) (w : ℕ) (pend a : Option Account) (st f was is : Bool) → Runs st f was is → is_some a ≡ was
    → amount measure w (cond st pend (cond f None a)) + if_so f (amount measure w a) ≡ amount measure w a + if_so st (amount measure w pend)
runs-balance measure w pend a st f was is (Runs.stays there) p = refl
runs-balance measure w pend a st f was is Runs.begins p = (let none = none-amount measure w a p in omega (arith, none))
runs-balance measure w pend a st f was is Runs.ends p = omega arith
runs-balance measure w pend a st f was is Runs.again p = omega arith

-- Lines.

pick-past : (value : ℕ → ℕ) (v n : ℕ) → n ≤ v → sum_below (λ w. if_so (v == w) (value w)) n ≡ 0
pick-past value v zero past = refl
pick-past value v (suc n) past =
    let before : sum_below (λ w. if_so (v == w) (value w)) n ≡ 0 = pick-past value v n (omega arith) in
    let here : if_so (v == n) (value n) ≡ 0 = ap (λ (b : Bool). if_so b (value n)) (ne_eqb v n (λ e. absurd (omega arith))) in
    omega (arith, before, here)

pub pick-one : (value : ℕ → ℕ) (v n : ℕ) → v < n → sum_below (λ w. if_so (v == w) (value w)) n ≡ value v
pick-one value v zero there = absurd (omega arith)
pick-one value v (suc n) there =
    elim (cases_eq v n) [
      | inl e ↦
          let before : sum_below (λ w. if_so (v == w) (value w)) n ≡ 0 = pick-past value v n (omega arith) in
          let here : if_so (v == n) (value n) ≡ value n = ap (λ (b : Bool). if_so b (value n)) (eq-eqb v n e) in
          let same : value n ≡ value v = ap value (sym e) in
          omega (arith, before, here, same)
      | inr ne ↦
          let before : sum_below (λ w. if_so (v == w) (value w)) n ≡ value v = pick-one value v n (omega arith) in
          let here : if_so (v == n) (value n) ≡ 0 = ap (λ (b : Bool). if_so b (value n)) (ne_eqb v n ne) in
          omega (arith, before, here)
    ]

line-amount : (measure : Measure) (time : ℕ) (fate : Fate) (w : ℕ) (a : Option Account) → sum_by (of_line measure) (account_line time fate w a) ≡ amount measure w a
line-amount measure time fate w (Some account) = sum_by-cons (of_line measure) (record { time = time; work = record { 0 = w }; fate = fate; account = account }) [] ∙ omega arith
line-amount measure time fate w None = refl

ended-amount : (measure : Measure) (time : ℕ) (fate : Fate) (o : Option ℕ) (accounts : List (Option Account)) (n : ℕ) → IsBelow o n
    → sum_by (of_line measure) (line_of_ended time fate o accounts) ≡ sum_below (λ w. if_so (is_some_work o w) (amount measure w (account_at accounts w))) n
ended-amount measure time fate (Some v) accounts n there =
    line-amount measure time fate v (account_at accounts v) ∙ sym (pick-one (λ w. amount measure w (account_at accounts w)) v n there)
ended-amount measure time fate None accounts n there = sym (sum-none (λ w. 0) n (λ w. refl))

-- An instruction.

together : (p r c f st x y q : ℕ) → p + (c + st) ≡ x + q → r + f ≡ y + st → (p + r) + (f + c) ≡ (x + y) + q
together p r c f st x y q e g = omega arith

pub pends-end : (st c req was is : Bool) → Pends st c req was is → c ≡ true → was ≡ true
pends-end st c req was is (Pends.stays there) e = cc
pends-end st c req was is Pends.begins e = cc
pends-end st c req was is Pends.ends e = refl
pends-end st c req was is Pends.comes e = cc
pends-end st c req was is Pends.anew e = refl

module _ (measure : Measure) (S : ScenarioContents) (s : State) (L : LedgerContents) (i : Instr) (kept : IsKept S s L) where
  abbrev t : State
  t = state_after S s i

  abbrev r : Reply
  r = reply_to S s i

  abbrev M : LedgerContents
  M = ledger_after S L s i

  abbrev n : ℕ
  n = length S.works

  pub cancelled-there : IsBelow (cancelled_by i r) n
  cancelled-there = below-from (cancelled_by i r) n (λ w e.
      let was : is_some (pending_at s w) ≡ true =
      pends-end (is_some_work (started_by r) w) (is_some_work (cancelled_by i r) w) (is_some_work (requested_by i r) w) (is_some (pending_at s w)) (is_some (pending_at t w))
      (pends-at S s i kept.setting kept.pending_long kept.in_pools w) e in
      let there : w < length s.pending = some-there s.pending w was in
      omega (arith, kept.pending_long))

  -- of the lines of what ends, work by work
  abbrev ends_of : ℕ → ℕ
  ends_of w = if_so (is_some_work (finished_by r) w) (amount measure w (running_passed S s t L w)) + if_so (is_some_work (cancelled_by i r) w) (amount measure w (pending_passed s t L w))

  lines-amount : sum_by (of_line measure) (lines_ending_at S L s i) ≡ sum_below ends_of n
  lines-amount =
      let passed = ledger_passed S s t L in
      let f = is_some_work (finished_by r) in
      let c = is_some_work (cancelled_by i r) in
      sum_by-append (of_line measure) (line_of_ended t.time Finished (finished_by r) passed.running) (line_of_ended t.time Cancelled (cancelled_by i r) passed.pending)
      ∙ ap (λ (k : ℕ). k + sum_by (of_line measure) (line_of_ended t.time Cancelled (cancelled_by i r) passed.pending))
      (ended-amount measure t.time Finished (finished_by r) passed.running n (finished-there S s L i kept)
      ∙ sum-same (λ w. if_so (f w) (amount measure w (account_at passed.running w))) (λ w. if_so (f w) (amount measure w (running_passed S s t L w))) n
      (λ w. ap (λ (a : Option Account). if_so (f w) (amount measure w a)) (passed-running S s t L w)))
      ∙ ap (λ (k : ℕ). sum_below (λ w. if_so (f w) (amount measure w (running_passed S s t L w))) n + k)
      (ended-amount measure t.time Cancelled (cancelled_by i r) passed.pending n cancelled-there
      ∙ sum-same (λ w. if_so (c w) (amount measure w (account_at passed.pending w))) (λ w. if_so (c w) (amount measure w (pending_passed s t L w))) n
      (λ w. ap (λ (a : Option Account). if_so (c w) (amount measure w a)) (passed-pending S s t L w)))
      ∙ sym (sum-both (λ w. if_so (f w) (amount measure w (running_passed S s t L w))) (λ w. if_so (c w) (amount measure w (pending_passed s t L w))) n)

  work-balance : (w : ℕ) → w < n → (amount measure w (account_at M.pending w) + amount measure w (account_at M.running w)) + ends_of w
      ≡ (amount measure w (pending_passed s t L w) + amount measure w (running_passed S s t L w)) + asked measure t.time (is_some_work (requested_by i r) w) w
  work-balance w there =
      let f = is_some_work (finished_by r) w in
      let c = is_some_work (cancelled_by i r) w in
      let st = is_some_work (started_by r) w in
      let req = is_some_work (requested_by i r) w in
      let pend = pending_passed s t L w in
      let run = running_passed S s t L w in
      let pends : amount measure w (account_at M.pending w) + (if_so c (amount measure w pend) + if_so st (amount measure w pend)) ≡ amount measure w pend + asked measure t.time req w =
      ap (λ (a : Option Account). amount measure w a + (if_so c (amount measure w pend) + if_so st (amount measure w pend))) (by-pending S L s i (table S s i) w (omega (arith, kept.pending_accounts)))
      ∙ pends-balance measure w t.time (pending_at t w) pend st c req (is_some (pending_at s w)) (is_some (pending_at t w)) (pends-at S s i kept.setting kept.pending_long kept.in_pools w)
      (pending-passed-some s t L w ∙ kept.pending w) refl
      in
      let runs : amount measure w (account_at M.running w) + if_so f (amount measure w run) ≡ amount measure w run + if_so st (amount measure w pend) =
      ap (λ (a : Option Account). amount measure w a + if_so f (amount measure w run)) (by-running S L s i (table S s i) w (omega (arith, kept.running_accounts)))
      ∙ runs-balance measure w pend run st f (is_some (running_at s w)) (is_some (running_at t w)) (runs-at S s i kept.setting kept.pending_long kept.in_pools w) (running-passed-some S s t L w ∙ kept.running w)
      in
      together (amount measure w (account_at M.pending w)) (amount measure w (account_at M.running w)) (if_so c (amount measure w pend)) (if_so f (amount measure w run)) (if_so st (amount measure w pend))
      (amount measure w pend) (amount measure w run) (asked measure t.time req w) pends runs

  pub step-balance : sum_by (of_line measure) (lines_ending_at S L s i) + total measure M n ≡ total_passed measure S s t L n + sum_below (λ w. asked measure t.time (is_some_work (requested_by i r) w) w) n
  step-balance =
      let sums = sum-balance (λ w. amount measure w (account_at M.pending w) + amount measure w (account_at M.running w)) ends_of
      (λ w. amount measure w (pending_passed s t L w) + amount measure w (running_passed S s t L w)) (λ w. asked measure t.time (is_some_work (requested_by i r) w) w) n work-balance in
      let lines = lines-amount in
      omega (arith, sums, lines)

-- Those that are still there.

pending-amount : (measure : Measure) (time w : ℕ) (o : Option Pending) (a : Option Account) → is_some a ≡ is_some o → sum_by (of_line measure) (line_of_pending time w o a) ≡ amount measure w a
pending-amount measure time w (Some p) a e = line-amount measure time (StillPending p.place) w a
pending-amount measure time w None a e = sym (none-amount measure w a e)

pub left-amount : (measure : Measure) (S : ScenarioContents) (s : State) (L : LedgerContents) → IsKept S s L → sum_by (of_line measure) (still_lines S L s) ≡ total measure L (length S.works)
left-amount measure S s L kept =
    still-sum (of_line measure) S L s
    ∙ sum-same (λ w. sum_by (of_line measure) (still_of L s w)) (λ w. amount measure w (account_at L.pending w) + amount measure w (account_at L.running w)) (length S.works) (λ w.
    let both : sum_by (of_line measure) (still_of L s w)
    ≡ sum_by (of_line measure) (account_line s.time StillRunning w (account_at L.running w)) + sum_by (of_line measure) (line_of_pending s.time w (pending_at s w) (account_at L.pending w)) =
    sum_by-append (of_line measure) (account_line s.time StillRunning w (account_at L.running w)) (line_of_pending s.time w (pending_at s w) (account_at L.pending w)) in
    let runs = line-amount measure s.time StillRunning w (account_at L.running w) in
    let pends = pending-amount measure s.time w (pending_at s w) (account_at L.pending w) (kept.pending w) in
    omega (arith, both, runs, pends))

none-account : (n w : ℕ) (measure : Measure) (v : ℕ) → amount measure v (account_at (replicate n None) w) ≡ 0
none-account zero w measure v = refl
none-account (suc n) zero measure v = refl
none-account (suc n) (suc w) measure v = none-account n w measure v

pub start-amount : (measure : Measure) (S : ScenarioContents) → total measure (empty_ledger S) (length S.works) ≡ 0
start-amount measure S =
    sum-none (λ w. amount measure w (account_at (empty_ledger S).pending w) + amount measure w (account_at (empty_ledger S).running w)) (length S.works) (λ w.
    let none = none-account (length S.works) w measure w in
    omega (arith, none))
