-- Who is counted for whom, and whom nobody is to blame for.
use Rattle.std.proofs.Common.{◌≡◌, ℕ, ◌<◌, ◌≤◌, Bool, true, false, cond, ◌&&◌, ◌||◌, List, [], ◌∷◌, length, Option, Some, None, arith, refl, sym, ap, subst, ◌∙◌, inl, inr}
use Rattle.std.proofs.lemmas.Bool.{eq-eqb, lt-ltb}
use Rattle.std.specs.Prelude.{nat_lt, ◌==◌}
use Rattle.cmwq_types.specs.Contents.{ScenarioContents}
use Rattle.cmwq_types.specs.declared.reply.Place.{Place}
use Rattle.cmwq_table.specs.Counts.{pends, runs}
use Rattle.cmwq_table.specs.Laws.{InEveryState, IsNotReentrant}
use Rattle.cmwq_table.specs.State.{State, pending_at, running_at}
use Rattle.cmwq_table.specs.Table.{run}
use Rattle.cmwq_table.specs.declared.state.Pending.{Pending}
use Rattle.cmwq_table.specs.declared.state.Running.{Running}
use Rattle.cmwq_reasons.specs.declared.reason.Instance.{Instance}
use Rattle.cmwq_reasons.specs.declared.reason.Instance.TheVariants as instance
use Rattle.cmwq_reasons.specs.declared.reason.Reason.{Reason}
use Rattle.cmwq_reasons.specs.Laws.{BlamesWhoIsThere, IsAmong, IsThere}
use Rattle.cmwq_reasons.specs.Reasons.{causes, reason_if_pending, reason_if_running, reason_in_place, reason_of, reason_of_running, work_of}
use Rattle.cmwq_reasons.proofs.BlameLemmas.{blames_who_is_there}
use Rattle.cmwq_reasons.proofs.RankLemmas.{some-is}
use Rattle.cmwq_picture.specs.Picture.{place_sign, run_sign}
use Rattle.cmwq_blame.specs.Blame.{are_below, blames, blames_nobody, counts_for, has_one_of, is_wait, pending_counts, running_counts, work_counts}
use Rattle.cmwq_blame_laws.specs.Laws.{CountsEachThatWaits, CountsWhomItBlames, Grows, InEveryRun, is_waiting}
use Rattle.cmwq_blame_laws.proofs.Growing.{grows-with}

-- What a half counts.

pending-count : (S : ScenarioContents) (s : State) (w : ℕ) (p : Option Pending) (a : Reason) (o : Option ℕ) → pends (λ place. is_wait (place_sign place)) p ≡ true
    → reason_if_pending S s w p ≡ Some a → pending_counts S s w p o ≡ counts_for S s w a o
pending-count S s w (Some p) a o waits told =
    ap (λ (b : Bool). cond b (counts_for S s w (reason_in_place S s w p.place) o) 0) waits
    ∙ ap (λ (b : Reason). counts_for S s w b o) (some-is (reason_in_place S s w p.place) a told)
pending-count S s w None a o waits told = cc

running-count : (S : ScenarioContents) (s : State) (w : ℕ) (r : Option Running) (a : Reason) (o : Option ℕ) → runs (λ r. is_wait (run_sign S s w r)) r ≡ true
    → reason_if_running S s w r ≡ Some a → running_counts S s w r o ≡ counts_for S s w a o
running-count S s w (Some r) a o waits told =
    ap (λ (b : Bool). cond b (counts_for S s w (reason_of_running S s w r) o) 0) waits
    ∙ ap (λ (b : Reason). counts_for S s w b o) (some-is (reason_of_running S s w r) a told)
running-count S s w None a o waits told = cc

half-counts : (S : ScenarioContents) (s : State) (x : Instance) (a : Reason) (o : Option ℕ) → is_waiting S s x ≡ true → reason_of S s x ≡ Some a
    → counts_for S s (work_of x) a o ≤ work_counts S s (work_of x) o
half-counts S s (instance.Pending w) a o waits told =
    let same = pending-count S s w.0 (pending_at s w.0) a o waits told in
    omega (arith, same)
half-counts S s (instance.Running w) a o waits told =
    let same = running-count S s w.0 (running_at s w.0) a o waits told in
    omega (arith, same)

-- Whom a reason blames.

among-has : (y : Instance) (xs : List Instance) → IsAmong y xs → has_one_of (work_of y) xs ≡ true
among-has y [] there = absurd there
among-has y (x ∷ xs) (inl is) = ap (λ (b : Bool). b || has_one_of (work_of y) xs) (eq-eqb (work_of x) (work_of y) (ap work_of (sym is)))
among-has y (x ∷ xs) (inr later) = ap (λ (b : Bool). (work_of x == work_of y) || b) (among-has y xs later) ∙ or-true (work_of x == work_of y)
  where
    or-true : (b : Bool) → (b || true) ≡ true
    or-true true = refl
    or-true false = refl

one-if : (b : Bool) → b ≡ true → 0 < cond b 1 0
one-if true e = omega arith
one-if false e = cc

if-one : (b : Bool) → 0 < cond b 1 0 → b ≡ true
if-one true some = refl
if-one false some = absurd (omega (arith, some))

blamed-counts : (S : ScenarioContents) (s : State) (w : ℕ) (a : Reason) (y : Instance) → IsAmong y (causes S s w a) → 0 < counts_for S s w a (Some (work_of y))
blamed-counts S s w a y there = one-if (blames S s w a (work_of y)) (among-has y (causes S s w a) there)

nobody-counts : (S : ScenarioContents) (s : State) (w : ℕ) (a : Reason) → causes S s w a ≡ [] → 0 < counts_for S s w a None
nobody-counts S s w a none = one-if (blames_nobody S s w a) (ap (λ (xs : List Instance). length xs == 0) none)

pub counts_whom_it_blames : InEveryState IsNotReentrant → InEveryRun CountsWhomItBlames
unfolding CountsWhomItBlames BlamesWhoIsThere
counts_whom_it_blames apart S valid instrs i later x y a declared waits told there =
    let s = run S instrs in
    let w = work_of x in
    let y_there : IsThere S s y = blames_who_is_there apart S valid instrs x y a declared told there in
    let below : are_below (length S.works) w (Some (work_of y)) ≡ true =
    ap (λ (b : Bool). b && nat_lt (work_of y) (length S.works)) (lt-ltb w (length S.works) declared) ∙ lt-ltb (work_of y) (length S.works) y_there.0 in
    let some = blamed-counts S s w a y there in
    let more = half-counts S s x a (Some (work_of y)) waits told in
    grows-with S instrs i w (Some (work_of y)) later below (omega (arith, some, more))

-- who waits has a reason
pending-told : (S : ScenarioContents) (s : State) (w : ℕ) (p : Option Pending) (test : Place → Bool) → pends test p ≡ true
    → (a : Reason) × (reason_if_pending S s w p ≡ Some a)
pending-told S s w (Some p) test e = (reason_in_place S s w p.place, refl)
pending-told S s w None test e = cc

running-told : (S : ScenarioContents) (s : State) (w : ℕ) (r : Option Running) (test : Running → Bool) → runs test r ≡ true
    → (a : Reason) × (reason_if_running S s w r ≡ Some a)
running-told S s w (Some r) test e = (reason_of_running S s w r, refl)
running-told S s w None test e = cc

waiting-told : (S : ScenarioContents) (s : State) (x : Instance) → is_waiting S s x ≡ true → (a : Reason) × (reason_of S s x ≡ Some a)
waiting-told S s (instance.Pending w) waits = pending-told S s w.0 (pending_at s w.0) (λ place. is_wait (place_sign place)) waits
waiting-told S s (instance.Running w) waits = running-told S s w.0 (running_at s w.0) (λ r. is_wait (run_sign S s w.0 r)) waits

pub counts_each_that_waits : InEveryState IsNotReentrant → InEveryRun CountsEachThatWaits
unfolding CountsEachThatWaits CountsWhomItBlames
counts_each_that_waits apart S valid instrs i later x declared waits =
    let found = waiting-told S (run S instrs) x waits in
    some found.0 found.1 (causes S (run S instrs) (work_of x) found.0) refl
  where
    some : (a : Reason) → reason_of S (run S instrs) x ≡ Some a → (xs : List Instance) → causes S (run S instrs) (work_of x) a ≡ xs
        → (other : Option ℕ) × Grows S instrs i (work_of x) other
    some a told [] none =
        let one = nobody-counts S (run S instrs) (work_of x) a none in
        let more = half-counts S (run S instrs) x a None waits told in
        (None, grows-with S instrs i (work_of x) None later (lt-ltb (work_of x) (length S.works) declared) (omega (arith, one, more)))
    some a told (y ∷ ys) is =
        (Some (work_of y), counts_whom_it_blames apart S valid instrs i later x y a declared waits told (subst (λ (xs : List Instance). IsAmong y xs) (sym is) (inl refl)))
