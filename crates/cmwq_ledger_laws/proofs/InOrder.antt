-- The lines of those that end along a run come in the order of their times.
use Rattle.std.proofs.Common.{◌≡◌, ℕ, ◌≤◌, List, [], ◌∷◌, ◌++◌, Option, Some, None, All, AllPairs, arith, refl, inl, inr}
use Rattle.std.proofs.lemmas.List.Elements.{All-append, All-head, All-nil, All-tail, All-weaker}
use Rattle.std.proofs.lemmas.List.Kept.{AllPairs-cons}
use Rattle.cmwq_types.specs.Contents.{ScenarioContents}
use Rattle.cmwq_types.specs.declared.instr.Instr.{Instr}
use Rattle.cmwq_table.specs.Laws.{reply_to, state_after}
use Rattle.cmwq_table.specs.State.{State}
use Rattle.cmwq_table.specs.Table.{after_all}
use Rattle.cmwq_ledger.specs.Contents.{LedgerContents}
use Rattle.cmwq_table.specs.Told.{cancelled_by, finished_by}
use Rattle.cmwq_ledger.specs.Ledger.{account_at, ledger_after, ledger_passed, line_of_ended, lines_ending_at, lines_from}
use Rattle.cmwq_ledger.specs.declared.account.Account.{Account}
use Rattle.cmwq_ledger.specs.declared.times_line.Fate.{Fate}
use Rattle.cmwq_ledger.specs.declared.times_line.Fate.TheVariants.{Cancelled, Finished}
use Rattle.cmwq_ledger.specs.declared.times_line.TimesLine.{TimesLine}
use Rattle.cmwq_ledger_laws.proofs.LineLemmas.{EndedHolds, LineHolds, ended-holds}
use Rattle.cmwq_ledger_laws.proofs.Passing.{Passes, table-passes}

abbrev NotAfter : TimesLine → TimesLine → Type 0
NotAfter one later = one.time ≤ later.time

abbrev IsAt : ℕ → TimesLine → Type 0
IsAt time line = line.time ≡ time

abbrev IsFrom : ℕ → TimesLine → Type 0
IsFrom time line = time ≤ line.time

abbrev IsUpTo : ℕ → TimesLine → Type 0
IsUpTo time line = line.time ≤ time

line-at : (time : ℕ) (fate : Fate) (w : ℕ) (a : Option Account) → LineHolds (IsAt time) time fate w a
line-at time fate w (Some account) = refl
line-at time fate w None = tt

ended-at : (time : ℕ) (fate : Fate) (o : Option ℕ) (accounts : List (Option Account)) → EndedHolds (IsAt time) time fate o accounts
ended-at time fate (Some w) accounts = line-at time fate w (account_at accounts w)
ended-at time fate None accounts = tt

lines-at_time : (S : ScenarioContents) (L : LedgerContents) (s : State) (i : Instr) → All (IsAt (state_after S s i).time) (lines_ending_at S L s i)
lines-at_time S L s i =
    let t = state_after S s i in
    let r = reply_to S s i in
    let passed = ledger_passed S s t L in
    All-append (IsAt t.time) (line_of_ended t.time Finished (finished_by r) passed.running) (line_of_ended t.time Cancelled (cancelled_by i r) passed.pending)
    (ended-holds (IsAt t.time) t.time Finished (finished_by r) passed.running (ended-at t.time Finished (finished_by r) passed.running))
    (ended-holds (IsAt t.time) t.time Cancelled (cancelled_by i r) passed.pending (ended-at t.time Cancelled (cancelled_by i r) passed.pending))

-- lines of one time, and then lines of that time or later ones
append-pairs : (time : ℕ) (xs ys : List TimesLine) → All (IsAt time) xs → All (IsFrom time) ys → AllPairs NotAfter ys → AllPairs NotAfter (xs ++ ys)
append-pairs time [] ys at from pairs = pairs
append-pairs time (x ∷ xs) ys at from pairs =
    let here : x.time ≡ time = All-head (IsAt time) x xs at in
    let rest : All (IsAt time) xs = All-tail (IsAt time) x xs at in
    let near : All (NotAfter x) xs = All-weaker (IsAt time) (NotAfter x) (λ y e. omega (arith, here)) xs rest in
    let far : All (NotAfter x) ys = All-weaker (IsFrom time) (NotAfter x) (λ y h. omega (arith, here)) ys from in
    AllPairs-cons NotAfter x (xs ++ ys) (All-append (NotAfter x) xs ys near far) (append-pairs time xs ys rest from pairs)

goes-up : (s t : State) → Passes s t → s.time ≤ t.time
goes-up s t (inl stands) = omega (arith, stands.1)
goes-up s t (inr passes) = omega (arith, passes.1)

pub later-state : (S : ScenarioContents) (s : State) (instrs : List Instr) → s.time ≤ (after_all S s instrs).time
later-state S s [] = omega arith
later-state S s (i ∷ instrs) =
    let one : s.time ≤ (state_after S s i).time = goes-up s (state_after S s i) (table-passes S s i) in
    let rest : (state_after S s i).time ≤ (after_all S (state_after S s i) instrs).time = later-state S (state_after S s i) instrs in
    omega (arith, one, rest)

record InOrder (S : ScenarioContents) (L : LedgerContents) (s : State) (instrs : List Instr) : Type 0 where
  from : All (IsFrom s.time) (lines_from S L s instrs)
  up_to : All (IsUpTo (after_all S s instrs).time) (lines_from S L s instrs)
  pairs : AllPairs NotAfter (lines_from S L s instrs)

all-in-order : (S : ScenarioContents) (L : LedgerContents) (s : State) (instrs : List Instr) → InOrder S L s instrs
all-in-order S L s [] = record { from = All-nil (IsFrom s.time); up_to = All-nil (IsUpTo s.time); pairs = λ i j d before there. absurd (omega arith) }
all-in-order S L s (i ∷ instrs) =
    let t = state_after S s i in
    let M = ledger_after S L s i in
    let rest = all-in-order S M t instrs in
    let at : All (IsAt t.time) (lines_ending_at S L s i) = lines-at_time S L s i in
    let up : s.time ≤ t.time = goes-up s t (table-passes S s i) in
    let later : t.time ≤ (after_all S t instrs).time = later-state S t instrs in
    record {
      from = All-append (IsFrom s.time) (lines_ending_at S L s i) (lines_from S M t instrs)
          (All-weaker (IsAt t.time) (IsFrom s.time) (λ line e. omega (arith, up)) (lines_ending_at S L s i) at)
          (All-weaker (IsFrom t.time) (IsFrom s.time) (λ line h. omega (arith, up)) (lines_from S M t instrs) rest.from);
      up_to = All-append (IsUpTo (after_all S t instrs).time) (lines_ending_at S L s i) (lines_from S M t instrs)
          (All-weaker (IsAt t.time) (IsUpTo (after_all S t instrs).time) (λ line e. omega (arith, later)) (lines_ending_at S L s i) at) rest.up_to;
      pairs = append-pairs t.time (lines_ending_at S L s i) (lines_from S M t instrs) at rest.from rest.pairs;
    }

pub ends-in-order : (S : ScenarioContents) (L : LedgerContents) (s : State) (instrs : List Instr)
    → AllPairs NotAfter (lines_from S L s instrs) × All (IsUpTo (after_all S s instrs).time) (lines_from S L s instrs)
ends-in-order S L s instrs = let order = all-in-order S L s instrs in (order.pairs, order.up_to)
