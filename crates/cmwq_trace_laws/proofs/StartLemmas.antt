-- A work that starts has a new stamp, and never other one that runs has, but for one that wakes.
use Rattle.std.proofs.Common.{◌≡◌, ℕ, zero, suc, ◌+◌, ◌-◌, ◌<◌, ◌≤◌, Bool, true, false, true≢false, cond, ◌&&◌, List, [], ◌∷◌, length, replicate, Option, Some, None, arith, refl, sym, ap, ◌∙◌, subst, inl, inr, ◌⊎◌, eq-eqb}
use Rattle.std.proofs.lemmas.Bool.{and_parts, eqb-true, eqb-false}
use Rattle.std.proofs.lemmas.Bool.Decides.{nat_tests}
use Rattle.std.proofs.lemmas.List.{get_or-set_other, length-replicate}
use Rattle.std.specs.Prelude.{nat_lt, slice_index_or, slice_set, ◌==◌}
use Rattle.cmwq_types.specs.Contents.{ScenarioContents}
use Rattle.cmwq_types.specs.First.{count_below}
use Rattle.cmwq_types.specs.declared.instr.Instr.{Instr}
use Rattle.cmwq_types.specs.declared.instr.WorkId.{WorkId}
use Rattle.cmwq_types.specs.declared.reply.Event.{Event}
use Rattle.cmwq_types.specs.declared.reply.Event.TheVariants as event
use Rattle.cmwq_types.specs.declared.reply.Reply.{Reply}
use Rattle.cmwq_types.specs.declared.reply.Reply.TheVariants as reply
use Rattle.cmwq_table.specs.declared.state.Running.{Running}
use Rattle.cmwq_table.specs.Laws.{AtEveryInstruction, is_wake, tells_wake}
use Rattle.cmwq_table.specs.Moves.{burned, one_less}
use Rattle.cmwq_table.specs.State.{State, pending_at, running_at, start}
use Rattle.cmwq_table.specs.Table.{after_all, replies_from, run, table}
use Rattle.cmwq_table.specs.Told.{is_start, tells_of}
use Rattle.cmwq_burning.specs.Burning.{starts_work}
use Rattle.cmwq_burning.proofs.Happening.{Changes, Happens, IsSilent, table-does}
use Rattle.cmwq_events.specs.KernelEvents.{doer_of, event_by, instr_events, kernel_events_from, start_events}
use Rattle.cmwq_events.specs.declared.doer.Doer.{Doer}
use Rattle.cmwq_events.specs.declared.kernel_event.Tracepoint.TheVariants as tracepoint
use Rattle.cmwq_trace_laws.specs.EventLaws.{TellsAllStarts, TellsStarts, count_events, count_replies, events_at, is_starting}
use Rattle.cmwq_trace_laws.proofs.CountLemmas.{end-count, instr-counts, none-below, pends-none}
use Rattle.cmwq_trace_laws.proofs.StampLemmas.{IsSeat, RunMoves, StampFits, is_again, table-moves}
use Rattle.cmwq_trace_laws.proofs.WeighLemmas.{count-append, running_weight}
use Rattle.cmwq_events.proofs.CallerLemmas.{running-length}
use Rattle.cmwq_tell.proofs.Becoming.{Goes, table-goes}

-- The next stamp never falls.

goes-next : (s t : State) → Goes s t → s.next ≤ t.next
goes-next s t (inl moves) = moves.next
goes-next s t (inr defers) = omega (arith, defers.next)

table-next : (S : ScenarioContents) (s : State) (i : Instr) → s.next ≤ (table S s i).0.next
table-next S s i = goes-next s (table S s i).0 (table-goes S s i)

-- One work.

abbrev pub tells_again : ℕ → Reply → Bool
tells_again w (reply.Event work e) = is_again e && (work.0 == w)
tells_again w other = false

-- it runs on with the stamp that it had, and doesn't start where it ends; or its stamp is new, and it begins to run, or runs anew where it ran; or it doesn't run
pub data AtWork (s : State) (after : ℕ) (told : Reply) (v : ℕ) : Option Running → Type 0 where
  same : (old r : Running) → running_at s v ≡ Some old → r.stamp ≡ old.stamp → IsSeat old r → tells_again v told ≡ false → AtWork s after told v (Some r)
  begins : (r : Running) → r.stamp ≡ s.next → s.next < after → starts_work v told ≡ true → tells_again v told ≡ false → AtWork s after told v (Some r)
  anew : (old r : Running) → running_at s v ≡ Some old → r.stamp ≡ s.next → s.next < after → IsSeat old r → (starts_work v told ≡ true) ⊎ (tells_wake told ≡ true) → AtWork s after told v (Some r)
  gone : AtWork s after told v None

not-again : (v : ℕ) (told : Reply) → tells_of is_again told ≡ false → tells_again v told ≡ false
not-again v (reply.Event work e) never = ap (λ (b : Bool). b && (work.0 == v)) never
not-again v other never = refl

stays : (s : State) (after : ℕ) (told : Reply) (v : ℕ) (o : Option Running) → running_at s v ≡ o → tells_again v told ≡ false → AtWork s after told v o
stays s after told v (Some r) is never = AtWork.same r r is refl (refl, refl) never
stays s after told v None is never = AtWork.gone

burned-at : (test : ℕ → Option Running → Bool) (k : ℕ) (rs : List (Option Running)) (v : ℕ)
    → (b : Bool) × (slice_index_or (burned test k rs) v None ≡ cond b (one_less (slice_index_or rs v None)) (slice_index_or rs v None))
burned-at test k [] v = (false, refl)
burned-at test k (r ∷ rs) zero = (test k r, refl)
burned-at test k (r ∷ rs) (suc v) = burned-at test (k + 1) rs v

passes : (s : State) (after : ℕ) (told : Reply) (v : ℕ) (b : Bool) (o : Option Running) → running_at s v ≡ o → tells_again v told ≡ false → AtWork s after told v (cond b (one_less o) o)
passes s after told v true (Some r) is never = AtWork.same r (record r { left = r.left - 1 }) is refl (refl, refl) never
passes s after told v true None is never = AtWork.gone
passes s after told v false o is never = stays s after told v o is never

set-own : (xs : List (Option Running)) (i : ℕ) (x : Option Running) → (slice_index_or (slice_set xs i x) i None ≡ x) ⊎ (slice_index_or (slice_set xs i x) i None ≡ None)
set-own [] i x = inr refl
set-own (y ∷ ys) zero x = inl refl
set-own (y ∷ ys) (suc i) x = set-own ys i x

event-told : (w : WorkId) (e : Event) → (is_start e ≡ true) ⊎ (is_wake e ≡ true) → (starts_work w.0 (reply.Event w e) ≡ true) ⊎ (tells_wake (reply.Event w e) ≡ true)
event-told w e (inl starts) = inl (ap (λ (b : Bool). b && (w.0 == w.0)) starts ∙ eq-eqb w.0 w.0 refl)
event-told w e (inr wakes) = inr wakes

fits-at : (s : State) (after : ℕ) (w : WorkId) (e : Event) (o q : Option Running) → running_at s w.0 ≡ o → StampFits s.next after o q e → AtWork s after (reply.Event w e) w.0 q
fits-at s after w e o q is (StampFits.begins _ r _ stamp below starts first) =
    AtWork.begins r stamp below (ap (λ (b : Bool). b && (w.0 == w.0)) starts ∙ eq-eqb w.0 w.0 refl) (ap (λ (b : Bool). b && (w.0 == w.0)) first)
fits-at s after w e o q is (StampFits.anew old r _ stamp below seat told) = AtWork.anew old r is stamp below seat (event-told w e told)
fits-at s after w e o q is (StampFits.kept old r _ stamp seat never) = AtWork.same old r is stamp seat (ap (λ (b : Bool). b && (w.0 == w.0)) never)
fits-at s after w e o q is (StampFits.gone _ _) = AtWork.gone

other-again : (w : WorkId) (e : Event) (v : ℕ) → (w.0 == v) ≡ false → tells_again v (reply.Event w e) ≡ false
other-again w e v apart = chosen (is_again e) where
  chosen : (b : Bool) → (b && (w.0 == v)) ≡ false
  chosen true = apart
  chosen false = refl

moved-at : (s : State) (running : List (Option Running)) (after : ℕ) (w : WorkId) (e : Event) (q : Option Running) → running ≡ slice_set s.running w.0 q → StampFits s.next after (running_at s w.0) q e
    → (v : ℕ) (b : Bool) → (w.0 == v) ≡ b → AtWork s after (reply.Event w e) v (slice_index_or running v None)
moved-at s running after w e q set fits v true is =
    let here : w.0 ≡ v = eqb-true w.0 v is in
    subst (λ (u : ℕ). AtWork s after (reply.Event w e) u (slice_index_or running u None)) here
    (subst (λ (rs : List (Option Running)). AtWork s after (reply.Event w e) w.0 (slice_index_or rs w.0 None)) (sym set) (own (set-own s.running w.0 q))) where
      own : (slice_index_or (slice_set s.running w.0 q) w.0 None ≡ q) ⊎ (slice_index_or (slice_set s.running w.0 q) w.0 None ≡ None) → AtWork s after (reply.Event w e) w.0 (slice_index_or (slice_set s.running w.0 q) w.0 None)
      own (inl there) = subst (λ (o : Option Running). AtWork s after (reply.Event w e) w.0 o) (sym there) (fits-at s after w e (running_at s w.0) q refl fits)
      own (inr none) = subst (λ (o : Option Running). AtWork s after (reply.Event w e) w.0 o) (sym none) AtWork.gone
moved-at s running after w e q set fits v false is =
    let other = get_or-set_other s.running w.0 v q None (λ same. eqb-false w.0 v is (sym same)) in
    subst (λ (o : Option Running). AtWork s after (reply.Event w e) v o) (sym (ap (λ (rs : List (Option Running)). slice_index_or rs v None) set ∙ other))
    (stays s after (reply.Event w e) v (running_at s v) refl (other-again w e v is))

pub runs-at : (s : State) (running : List (Option Running)) (after : ℕ) (told : Reply) → RunMoves s running after told → (v : ℕ) → AtWork s after told v (slice_index_or running v None)
runs-at s running after told (RunMoves.nothing runs never) v =
    subst (λ (o : Option Running). AtWork s after told v o) (sym (ap (λ (rs : List (Option Running)). slice_index_or rs v None) runs)) (stays s after told v (running_at s v) refl (not-again v told never))
runs-at s running after told (RunMoves.passes test runs never) v =
    let at = burned-at test 0 s.running v in
    subst (λ (o : Option Running). AtWork s after told v o) (sym (ap (λ (rs : List (Option Running)). slice_index_or rs v None) runs ∙ at.1))
    (passes s after told v at.0 (running_at s v) refl (not-again v told never))
runs-at s running after told (RunMoves.moves w e q runs is fits) v =
    subst (λ (r : Reply). AtWork s after r v (slice_index_or running v None)) (sym is) (moved-at s running after w e q runs fits v (w.0 == v) refl)

-- All runs have stamps below the next one.

abbrev pub IsOldRun : ℕ → Option Running → Type 0
IsOldRun next (Some r) = r.stamp < next
IsOldRun next None = Unit {0}

abbrev pub AreOldRuns : State → Type 0
AreOldRuns s = (w : ℕ) → IsOldRun s.next (running_at s w)

old-then : (s : State) (after : ℕ) (told : Reply) (v : ℕ) (o : Option Running) → s.next ≤ after → AreOldRuns s → AtWork s after told v o → IsOldRun after o
old-then s after told v o later old (AtWork.same was r is stamp seat never) =
    let below : was.stamp < s.next = subst (λ (x : Option Running). IsOldRun s.next x) is (old v) in
    omega (arith, below, stamp, later)
old-then s after told v o later old (AtWork.begins r stamp below starts first) = omega (arith, stamp, below)
old-then s after told v o later old (AtWork.anew was r is stamp below seat starts) = omega (arith, stamp, below)
old-then s after told v o later old AtWork.gone = tt

old-runs : (S : ScenarioContents) (s : State) (i : Instr) → AreOldRuns s → AreOldRuns (table S s i).0
old-runs S s i old =
    let t = (table S s i).0 in
    λ v. old-then s t.next (table S s i).1 v (running_at t v) (table-next S s i) old (runs-at s t.running t.next (table S s i).1 (table-moves S s i) v)

-- what every state has that a run comes to
pub record IsTraced (S : ScenarioContents) (s : State) : Type 0 where
  pub long : length s.running ≡ length S.works
  pub old : AreOldRuns s

pub traced-then : (S : ScenarioContents) (s : State) (i : Instr) → IsTraced S s → IsTraced S (table S s i).0
traced-then S s i traced = record { long = running-length S s i ∙ traced.long; old = old-runs S s i traced.old }

none-runs : (n w : ℕ) → IsOldRun 0 (slice_index_or (replicate n None) w None)
none-runs zero w = tt
none-runs (suc n) zero = tt
none-runs (suc n) (suc w) = none-runs n w

pub start-traced : (S : ScenarioContents) → IsTraced S (start S)
start-traced S = record { long = length-replicate (length S.works) None; old = none-runs (length S.works) }

all-traced : (S : ScenarioContents) (s : State) (instrs : List Instr) → IsTraced S s → IsTraced S (after_all S s instrs)
all-traced S s [] traced = traced
all-traced S s (i ∷ is) traced = all-traced S (table S s i).0 is (traced-then S s i traced)

-- Where a start is told, the work runs then; and it didn't, or ends too.

set-there : (xs : List (Option Running)) (i : ℕ) (r : Running) → i < length xs → slice_index_or (slice_set xs i (Some r)) i None ≡ Some r
set-there [] i r there = absurd (omega (arith, there))
set-there (x ∷ xs) zero r there = refl
set-there (x ∷ xs) (suc i) r there = set-there xs i r (omega (arith, there))

pub record Starts (s t : State) (told : Reply) (v : ℕ) : Type 0 where
  pub r : Running
  pub runs : running_at t v ≡ Some r
  pub begins : (running_at s v ≡ None) ⊎ (tells_again v told ≡ true)

silent-not : (v : ℕ) (told : Reply) → IsSilent told → starts_work v told ≡ true → ⊥
silent-not v told silent starts = true≢false (sym starts ∙ (silent v).0)

changes-start : (S : ScenarioContents) (s t : State) (w : WorkId) (e : Event) (q : Option Running) → w.0 < length s.running → t.running ≡ slice_set s.running w.0 q
    → is_start e ≡ true → (o : Option Running) → running_at s w.0 ≡ o → Changes S w.0 o q e → Starts s t (reply.Event w e) w.0
changes-start S s t w e q there set starts o is (Changes.starts r _ pool at begun not_end) =
    record { r = r; runs = ap (λ (rs : List (Option Running)). slice_index_or rs w.0 None) set ∙ set-there s.running w.0 r there; begins = inl is }
changes-start S s t w e q there set starts o is (Changes.goes_on old r _ pool left no_start no_end) = absurd (true≢false (sym starts ∙ no_start))
changes-start S s t w e q there set starts o is (Changes.ends old ended) = absurd (true≢false (sym starts))
changes-start S s t w e q there set starts o is (Changes.again old r pool ended at) =
    record { r = r; runs = ap (λ (rs : List (Option Running)). slice_index_or rs w.0 None) set ∙ set-there s.running w.0 r there; begins = inr (eq-eqb w.0 w.0 refl) }

pub start-runs : (S : ScenarioContents) (s t : State) (told : Reply) → length s.running ≡ length S.works → Happens S s t.running t.time told → (v : ℕ) → starts_work v told ≡ true → Starts s t told v
start-runs S s t told long (Happens.nothing runs still silent) v starts = absurd (silent-not v told silent starts)
start-runs S s t told long (Happens.passes settled runs on silent) v starts = absurd (silent-not v told silent starts)
start-runs S s t told long (Happens.moves w e q there runs still is changes) v starts =
    let parts : (is_start e ≡ true) × ((w.0 == v) ≡ true) = and_parts (is_start e) (w.0 == v) (ap (λ (r : Reply). starts_work v r) (sym is) ∙ starts) in
    subst (λ (r : Reply). Starts s t r v) (sym is)
    (subst (λ (u : ℕ). Starts s t (reply.Event w e) u) (eqb-true w.0 v parts.1)
    (changes-start S s t w e q (omega (arith, there, long)) runs parts.0 (running_at s w.0) refl changes))

-- So as many starts are told.

wake-start : (e : Event) → is_wake e ≡ true → is_start e ≡ true → ⊥
wake-start event.Wakes wakes starts = true≢false (sym starts)
wake-start other wakes starts = true≢false (sym wakes)

wake-not : (v : ℕ) (told : Reply) → tells_wake told ≡ true → starts_work v told ≡ true → ⊥
wake-not v (reply.Event w e) wakes starts = wake-start e wakes (and_parts (is_start e) (w.0 == v) starts).0
wake-not v other wakes starts = true≢false (sym wakes)

pub some-none : (r : Running) → ◌≡◌ {A = Option Running} (Some r) None → ⊥
some-none r e = cc

pub false-or : (b : Bool) → (b ≡ true → ⊥) → b ≡ false
false-or true never = absurd (never refl)
false-or false never = refl

module _ (S : ScenarioContents) (s t : State) (told : Reply) (doer : Doer) (old : AreOldRuns s) (long : length s.running ≡ length S.works) (happens : Happens S s t.running t.time told) where
  abbrev weighs : ℕ → Option Running → ℕ
  weighs v o = running_weight doer s.next told is_starting v o

  weigh-old : (v : ℕ) (r : Running) → r.stamp < s.next → weighs v (Some r) ≡ 0
  weigh-old v r below =
      let is : nat_lt r.stamp s.next ≡ true = grind (arith, nat_tests, below) in
      ap (λ (b : Bool). cond b 0 (count_events is_starting (start_events doer told (record { 0 = v })))) is

  weigh-new : (v : ℕ) (r : Running) → r.stamp ≡ s.next → weighs v (Some r) ≡ cond (tells_wake told) 0 1
  weigh-new v r stamp =
      let is : nat_lt r.stamp s.next ≡ false = grind (arith, nat_tests, stamp) in
      ap (λ (b : Bool). cond b 0 (count_events is_starting (start_events doer told (record { 0 = v })))) is ∙ chosen (tells_wake told) where
        chosen : (b : Bool) → count_events is_starting (cond b [] (event_by doer (record { 0 = v }) tracepoint.ExecuteStart ∷ [])) ≡ cond b 0 1
        chosen true = refl
        chosen false = refl

  not-started : (v : ℕ) → (starts_work v told ≡ true → ⊥) → cond {A = ℕ} (starts_work v told) 1 0 ≡ 0
  not-started v never = ap (λ (b : Bool). cond {A = ℕ} b 1 0) (false-or (starts_work v told) never)

  weigh-start : (v : ℕ) (r : Running) → r.stamp ≡ s.next → starts_work v told ≡ true → weighs v (Some r) ≡ cond (starts_work v told) 1 0
  weigh-start v r stamp starts =
      let wakes : tells_wake told ≡ false = false-or (tells_wake told) (λ wakes. wake-not v told wakes starts) in
      weigh-new v r stamp ∙ ap (λ (b : Bool). cond {A = ℕ} b 0 1) wakes ∙ sym (ap (λ (b : Bool). cond {A = ℕ} b 1 0) starts)

  weighed : (v : ℕ) (o : Option Running) → running_at t v ≡ o → AtWork s t.next told v o → weighs v o ≡ cond (starts_work v told) 1 0
  weighed v o runs (AtWork.same was r is stamp seat never) =
      let below : was.stamp < s.next = subst (λ (x : Option Running). IsOldRun s.next x) is (old v) in
      weigh-old v r (omega (arith, below, stamp)) ∙ sym (not-started v (λ starts. begun (start-runs S s t told long happens v starts).begins)) where
        begun : (running_at s v ≡ None) ⊎ (tells_again v told ≡ true) → ⊥
        begun (inl none) = some-none was (sym is ∙ none)
        begun (inr again) = true≢false (sym again ∙ never)
  weighed v o runs (AtWork.begins r stamp below starts first) = weigh-start v r stamp starts
  weighed v o runs (AtWork.anew was r is stamp below seat (inl starts)) = weigh-start v r stamp starts
  weighed v o runs (AtWork.anew was r is stamp below seat (inr wakes)) =
      weigh-new v r stamp ∙ ap (λ (b : Bool). cond {A = ℕ} b 0 1) wakes ∙ sym (not-started v (λ starts. wake-not v told wakes starts))
  weighed v o runs AtWork.gone =
      sym (not-started v (λ starts. let there = start-runs S s t told long happens v starts in some-none there.r (sym there.runs ∙ runs)))

-- of all works one starts, or none

abbrev told_work : Reply → ℕ
told_work (reply.Event w e) = w.0
told_work other = 0

one-work : (k n : ℕ) → k < n → count_below (λ w. k == w) n ≡ 1
one-work k zero there = absurd (omega (arith, there))
one-work k (suc n) there = chosen (k == n) refl (λ below. one-work k n below) where
  before : n ≤ k → (m : ℕ) → m ≤ n → count_below (λ w. k == w) m ≡ 0
  before at zero small = refl
  before at (suc m) small =
      let rest = before at m (omega (arith, small)) in
      let other : (k == m) ≡ false = grind (arith, nat_tests, at, small) in
      let none : cond {A = ℕ} (k == m) 1 0 ≡ 0 = ap (λ (b : Bool). cond {A = ℕ} b 1 0) other in
      omega (arith, rest, none)

  chosen : (b : Bool) → (k == n) ≡ b → (k < n → count_below (λ w. k == w) n ≡ 1) → count_below (λ w. k == w) n + cond b 1 0 ≡ 1
  chosen true is rest =
      let same : k ≡ n = eqb-true k n is in
      let none = before (omega (arith, same)) n (omega arith) in
      omega (arith, none)
  chosen false is rest =
      let apart : k < n = grind (arith, nat_tests, is, there) in
      let one = rest apart in
      omega (arith, one)

event-counts : (w : WorkId) (e : Event) (n : ℕ) → (is_start e ≡ true → w.0 < n) → count_below (λ v. is_start e && (w.0 == v)) n ≡ cond (is_start e) 1 0
event-counts w e n there = chosen (is_start e) there where
  chosen : (b : Bool) → (b ≡ true → w.0 < n) → count_below (λ v. b && (w.0 == v)) n ≡ cond b 1 0
  chosen true below = one-work w.0 n (below refl)
  chosen false below = none-below n

in-range : (S : ScenarioContents) (s : State) (running : List (Option Running)) (time : ℕ) (told : Reply) → Happens S s running time told → (w : WorkId) (e : Event) → told ≡ reply.Event w e → is_start e ≡ true → w.0 < length S.works
in-range S s running time told (Happens.nothing runs still silent) w e is starts = absurd (silent-not w.0 told silent (ap (λ (r : Reply). starts_work w.0 r) is ∙ ap (λ (b : Bool). b && (w.0 == w.0)) starts ∙ eq-eqb w.0 w.0 refl))
in-range S s running time told (Happens.passes settled runs on silent) w e is starts = absurd (silent-not w.0 told silent (ap (λ (r : Reply). starts_work w.0 r) is ∙ ap (λ (b : Bool). b && (w.0 == w.0)) starts ∙ eq-eqb w.0 w.0 refl))
in-range S s running time told (Happens.moves v f q there runs still named changes) w e is starts =
    let same : v.0 ≡ w.0 = ap (λ (r : Reply). told_work r) (sym named ∙ is) in
    omega (arith, there, same)

start-counts : (S : ScenarioContents) (s : State) (running : List (Option Running)) (time : ℕ) (told : Reply) → Happens S s running time told → count_below (λ v. starts_work v told) (length S.works) ≡ cond (tells_of is_start told) 1 0
start-counts S s running time told happens = at told refl where
  at : (r : Reply) → told ≡ r → count_below (λ v. starts_work v r) (length S.works) ≡ cond (tells_of is_start r) 1 0
  at (reply.Event w e) is = event-counts w e (length S.works) (λ starts. in-range S s running time told happens w e is starts)
  at other is = none-below (length S.works)

pub starts-counted : (S : ScenarioContents) (s : State) (i : Instr) → IsTraced S s → count_events is_starting (events_at S s i) ≡ cond (tells_of is_start (table S s i).1) 1 0
starts-counted S s i traced =
    let after = table S s i in
    let doer = doer_of S s i after in
    let happens = table-does S s i in
    let long = traced.long in
    let all = instr-counts S s after.0 i after.1 is_starting (λ w. starts_work w after.1) (λ w.
    let pends = pends-none doer s.next after.1 is_starting (λ cpu pool. refl) refl w (pending_at after.0 w) in
    let runs = weighed S s after.0 after.1 doer traced.old long happens w (running_at after.0 w) refl (runs-at s after.0.running after.0.next after.1 (table-moves S s i) w) in
    omega (arith, pends, runs)) in
    let none = end-count doer s.next after.1 is_starting refl in
    let one = start-counts S s after.0.running after.0.time after.1 happens in
    omega (arith, all, none, one)

starts-told : (S : ScenarioContents) (s : State) (i : Instr) → IsTraced S s → TellsStarts S s i
unfolding TellsStarts
starts-told S s i traced = starts-counted S s i traced

pub run-traced : (S : ScenarioContents) (instrs : List Instr) → IsTraced S (run S instrs)
run-traced S instrs = all-traced S (start S) instrs (start-traced S)

pub tells_starts : AtEveryInstruction TellsStarts
tells_starts S valid instrs i = starts-told S (run S instrs) i (run-traced S instrs)

all-starts : (S : ScenarioContents) (s : State) (instrs : List Instr) → IsTraced S s
    → count_events is_starting (kernel_events_from S s instrs) ≡ count_replies (tells_of is_start) (replies_from S s instrs)
all-starts S s [] traced = refl
all-starts S s (i ∷ is) traced =
    let after = table S s i in
    let both = count-append is_starting (instr_events S s i after) (kernel_events_from S after.0 is) in
    let here = starts-counted S s i traced in
    let more = all-starts S after.0 is (traced-then S s i traced) in
    omega (arith, both, here, more)

pub tells_all_starts : TellsAllStarts
unfolding TellsAllStarts
tells_all_starts S valid instrs = all-starts S (start S) instrs (start-traced S)
