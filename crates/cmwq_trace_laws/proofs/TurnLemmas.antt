-- At each instruction the events of a task go on as it executes.
use Rattle.std.proofs.Common.{◌≡◌, ℕ, zero, suc, ◌<◌, Bool, true, false, true≢false, ◌&&◌, cond, List, [], ◌∷◌, length, Option, Some, None, arith, refl, sym, ap, ◌∙◌, subst, inl, inr, eq-eqb}
use Rattle.std.proofs.lemmas.Bool.{and_parts, eqb-true, eqb-false}
use Rattle.std.proofs.lemmas.Bool.Decides.{nat_tests}
use Rattle.std.proofs.lemmas.List.{get_or-set_other}
use Rattle.std.specs.List.{flat_map}
use Rattle.std.specs.Prelude.{nat_lt, slice_index_or, slice_set, ◌==◌}
use Rattle.cmwq_types.specs.Contents.{ScenarioContents}
use Rattle.cmwq_types.specs.First.{or_else}
use Rattle.cmwq_types.specs.declared.instr.Instr.{Instr}
use Rattle.cmwq_types.specs.declared.instr.WorkId.{WorkId}
use Rattle.cmwq_types.specs.declared.reply.Event.{Event}
use Rattle.cmwq_types.specs.declared.reply.Event.TheVariants as event
use Rattle.cmwq_types.specs.declared.reply.Reply.{Reply}
use Rattle.cmwq_types.specs.declared.reply.Reply.TheVariants as reply
use Rattle.cmwq_table.specs.declared.state.Pending.{Pending}
use Rattle.cmwq_table.specs.declared.state.Running.{Running}
use Rattle.cmwq_table.specs.Counts.{burns}
use Rattle.cmwq_table.specs.State.{State, pending_at, running_at}
use Rattle.cmwq_table.specs.Table.{table}
use Rattle.cmwq_table.specs.Told.{is_end, is_start, tells_of}
use Rattle.cmwq_burning.specs.Burning.{starts_work}
use Rattle.cmwq_burning.proofs.Happening.{Changes, Happens, IsSilent, table-does}
use Rattle.cmwq_events.specs.KernelEvents.{doer_of, end_events, instance_events, instr_events, mover, stamped_below, worker_of}
use Rattle.cmwq_events.specs.declared.doer.Doer.{Doer}
use Rattle.cmwq_events.specs.declared.kernel_task.KernelTask.{KernelTask}
use Rattle.cmwq_trace_laws.specs.EventLaws.{count_events, is_ending, is_starting}
use Rattle.cmwq_trace_laws.proofs.CountLemmas.{ends-told, rest-ends}
use Rattle.cmwq_trace_laws.proofs.MarkLemmas.{StartsOf, StartsThis, both-of, ends-of, rest-of}
use Rattle.cmwq_trace_laws.proofs.StampLemmas.{IsSeat, RunMoves, table-moves}
use Rattle.cmwq_trace_laws.proofs.StartLemmas.{AreOldRuns, AtWork, IsOldRun, IsTraced, runs-at, some-none, starts-counted, tells_again}
use Rattle.cmwq_trace_laws.proofs.TaskLemmas.{Alone, Goes, Holds, SameSeats, again-goes, begins-goes, ends-goes, holds-on, quiet-goes, seats-burned, seats-equal, some_or}

and-self : (a b : Bool) → b ≡ true → (a && b) ≡ false → a ≡ false
and-self true true e f = cc
and-self true false e f = cc
and-self false b e f = refl

pub silent-tells : (told : Reply) → IsSilent told → (tells_of is_start told ≡ false) × (tells_of is_end told ≡ false)
silent-tells (reply.Event w e) silent =
    let it : (w.0 == w.0) ≡ true = eq-eqb w.0 w.0 refl in
    (and-self (is_start e) (w.0 == w.0) it (silent w.0).0, and-self (is_end e) (w.0 == w.0) it (silent w.0).1)
silent-tells other silent = (refl, refl)

-- a start is its worker's
mover-start : (S : ScenarioContents) (w : ℕ) (e : Event) (p : Option Pending) (a b : Option Running) → is_start e ≡ true → mover S w e p a b ≡ worker_of S w (or_else a b)
mover-start S w event.Fires p a b starts = absurd (true≢false (sym starts))
mover-start S w other p a b starts = refl

-- The work with a new stamp is the one that is moved.

this-one : (doer : Doer) (s : State) (after : ℕ) (w : WorkId) (e : Event) (v : ℕ) (o : Option Running) → AreOldRuns s → AtWork s after (reply.Event w e) v o → StartsThis w.0 doer s.next (reply.Event w e) v o
this-one doer s after w e v o old (AtWork.same was r is stamp seat never) = λ new awake.
    let below : was.stamp < s.next = subst (λ (x : Option Running). IsOldRun s.next x) is (old v) in
    let lower : nat_lt r.stamp s.next ≡ true = grind (arith, nat_tests, below, stamp) in
    absurd (true≢false (sym lower ∙ new))
this-one doer s after w e v o old (AtWork.begins r stamp below starts first) = λ new awake. sym (eqb-true w.0 v (and_parts (is_start e) (w.0 == v) starts).1)
this-one doer s after w e v o old (AtWork.anew was r is stamp below seat (inl starts)) = λ new awake. sym (eqb-true w.0 v (and_parts (is_start e) (w.0 == v) starts).1)
this-one doer s after w e v o old (AtWork.anew was r is stamp below seat (inr wakes)) = λ new awake. absurd (true≢false (sym wakes ∙ awake))
this-one doer s after w e v o old AtWork.gone = tt

-- It runs on where it ran, unless it begins.
pub seat-of : (s : State) (after : ℕ) (told : Reply) (w : ℕ) (r q : Running) (o : Option Running) → running_at s w ≡ Some r → o ≡ Some q → AtWork s after told w o → (starts_work w told ≡ true → tells_again w told ≡ false → ⊥) → IsSeat r q
seat-of s after told w r q o was is (AtWork.same old x there stamp seat never) begun =
    subst (λ (a : Running). IsSeat a q) (ap (λ (c : Option Running). some_or r c) (sym there ∙ was)) (subst (λ (b : Running). IsSeat old b) (ap (λ (c : Option Running). some_or q c) is) seat)
seat-of s after told w r q o was is (AtWork.begins x stamp below starts first) begun = absurd (begun starts first)
seat-of s after told w r q o was is (AtWork.anew old x there stamp below seat starts) begun =
    subst (λ (a : Running). IsSeat a q) (ap (λ (c : Option Running). some_or r c) (sym there ∙ was)) (subst (λ (b : Running). IsSeat old b) (ap (λ (c : Option Running). some_or q c) is) seat)
seat-of s after told w r q o was is AtWork.gone begun = absurd (some-none q (sym is))

set-there : (xs : List (Option Running)) (i : ℕ) (x : Option Running) → i < length xs → slice_index_or (slice_set xs i x) i None ≡ x
set-there [] i x there = absurd (omega (arith, there))
set-there (y ∷ ys) zero x there = refl
set-there (y ∷ ys) (suc i) x there = set-there ys i x (omega (arith, there))

module _ (S : ScenarioContents) (who : KernelTask) (s t : State) (i : Instr) (before : Option ℕ) (old : AreOldRuns s) (long : length s.running ≡ length S.works) (alone : Alone S who s) (alone_then : Alone S who t)
    (holds : Holds S who s before) where
  module _ (w : WorkId) (e : Event) (q : Option Running) (there : w.0 < length S.works) (runs : t.running ≡ slice_set s.running w.0 q) (moves : RunMoves s t.running t.next (reply.Event w e))
      (starts : count_events is_starting (instr_events S s i (t, reply.Event w e)) ≡ cond (is_start e) 1 0) (ends : count_events is_ending (instr_events S s i (t, reply.Event w e)) ≡ cond (is_end e) 1 0) where
    else-same : (v : ℕ) → (v ≡ w.0 → ⊥) → running_at t v ≡ running_at s v
    else-same v apart = ap (λ (rs : List (Option Running)). slice_index_or rs v None) runs ∙ get_or-set_other s.running w.0 v q None apart

    here : running_at t w.0 ≡ q
    here = ap (λ (rs : List (Option Running)). slice_index_or rs w.0 None) runs ∙ set-there s.running w.0 q (omega (arith, there, long))

    at-work : (v : ℕ) → AtWork s t.next (reply.Event w e) v (running_at t v)
    at-work v = runs-at s t.running t.next (reply.Event w e) moves v

    rest-starts : StartsOf w.0 (flat_map (λ one. instance_events (doer_of S s i (t, reply.Event w e)) s.next (reply.Event w e) one.work one.instance) (stamped_below t s.next (length S.works)))
    rest-starts = rest-of w.0 (doer_of S s i (t, reply.Event w e)) s.next (reply.Event w e) t (λ v. this-one (doer_of S s i (t, reply.Event w e)) s t.next w e v (running_at t v) old (at-work v)) (length S.works)

    seats-of : (r x : Running) → running_at s w.0 ≡ Some r → running_at t w.0 ≡ Some x → (starts_work w.0 (reply.Event w e) ≡ true → tells_again w.0 (reply.Event w e) ≡ false → ⊥)
        → (v : ℕ) → SameSeats S who (running_at s v) (running_at t v)
    seats-of r x was is begun v = at (v == w.0) refl where
      own : (a b : Option Running) → a ≡ Some r → b ≡ Some x → SameSeats S who a b
      own a b a_is b_is =
          subst (λ (c : Option Running). SameSeats S who c b) (sym a_is) (subst (λ (c : Option Running). SameSeats S who (Some r) c) (sym b_is)
          (seat-of s t.next (reply.Event w e) w.0 r x (running_at t w.0) was is (at-work w.0) begun))

      at : (c : Bool) → (v == w.0) ≡ c → SameSeats S who (running_at s v) (running_at t v)
      at true same = let v_is = eqb-true v w.0 same in own (running_at s v) (running_at t v) (ap (λ (u : ℕ). running_at s u) v_is ∙ was) (ap (λ (u : ℕ). running_at t u) v_is ∙ is)
      at false differs =
          subst (λ (o : Option Running). SameSeats S who (running_at s v) o) (sym (else-same v (eqb-false v w.0 differs))) (itself (running_at s v)) where
            itself : (o : Option Running) → SameSeats S who o o
            itself (Some y) = (refl, refl)
            itself None = tt

    quiet : is_start e ≡ false → is_end e ≡ false → Holds S who t before → Goes S who s t i (reply.Event w e) before
    quiet no_start no_end then =
        quiet-goes S who s t i (reply.Event w e) before (starts ∙ ap (λ (b : Bool). cond {A = ℕ} b 1 0) no_start) (ends ∙ ap (λ (b : Bool). cond {A = ℕ} b 1 0) no_end) then

  changes-goes : (w : WorkId) (e : Event) (o q : Option Running) → running_at s w.0 ≡ o → w.0 < length S.works → t.running ≡ slice_set s.running w.0 q → RunMoves s t.running t.next (reply.Event w e)
      → count_events is_starting (instr_events S s i (t, reply.Event w e)) ≡ cond (is_start e) 1 0 → count_events is_ending (instr_events S s i (t, reply.Event w e)) ≡ cond (is_end e) 1 0
      → Changes S w.0 o q e → Goes S who s t i (reply.Event w e) before
  changes-goes w e o q was there runs moves starts ends (Changes.starts r _ pool at begun not_end) =
      let is = here w e (Some r) there runs moves starts ends in
      begins-goes S who s t i w (else-same w e (Some r) there runs moves starts ends) e r before
      (mover-start S w.0 e (pending_at s w.0) (running_at s w.0) (running_at t w.0) begun
      ∙ ap (λ (a : Option Running). worker_of S w.0 (or_else a (running_at t w.0))) was ∙ ap (λ (b : Option Running). worker_of S w.0 b) is)
      was is
      (both-of w.0 (end_events (doer_of S s i (t, reply.Event w e)) (reply.Event w e)) _ (ends-of w.0 (doer_of S s i (t, reply.Event w e)) s.next (reply.Event w e)) (rest-starts w e (Some r) there runs moves starts ends))
      (starts ∙ ap (λ (b : Bool). cond {A = ℕ} b 1 0) begun) (ends ∙ ap (λ (b : Bool). cond {A = ℕ} b 1 0) not_end) alone_then holds
  changes-goes w e o q was there runs moves starts ends (Changes.goes_on r x _ pool left no_start no_end) =
      let is = here w e (Some x) there runs moves starts ends in
      quiet w e (Some x) there runs moves starts ends no_start no_end
      (holds-on S who s t before (seats-of w e (Some x) there runs moves starts ends r x was is
      (λ begun never. true≢false (sym (and_parts (is_start e) (w.0 == w.0) begun).0 ∙ no_start))) holds)
  changes-goes w e o q was there runs moves starts ends (Changes.ends r ended) =
      let is = here w event.Finishes None there runs moves starts ends in
      let doer = doer_of S s i (t, reply.Event w event.Finishes) in
      let rest = rest-ends S s t (reply.Event w event.Finishes) doer in
      ends-goes S who s t i w (else-same w event.Finishes None there runs moves starts ends) r before
      (ap (λ (a : Option Running). worker_of S w.0 (or_else a (running_at t w.0))) was) was is (omega (arith, starts)) rest alone holds
  changes-goes w e o q was there runs moves starts ends (Changes.again r x pool ended at) =
      let is = here w event.FinishesAndStarts (Some x) there runs moves starts ends in
      let doer = doer_of S s i (t, reply.Event w event.FinishesAndStarts) in
      let rest = rest-ends S s t (reply.Event w event.FinishesAndStarts) doer in
      let seats = seats-of w event.FinishesAndStarts (Some x) there runs moves starts ends r x was is
      (λ begun never. true≢false (sym (ap (λ (b : Bool). true && b) (eq-eqb w.0 w.0 refl)) ∙ never)) in
      let seat = seat-of s t.next (reply.Event w event.FinishesAndStarts) w.0 r x (running_at t w.0) was is (at-work w event.FinishesAndStarts (Some x) there runs moves starts ends w.0)
      (λ begun never. true≢false (sym (ap (λ (b : Bool). true && b) (eq-eqb w.0 w.0 refl)) ∙ never)) in
      again-goes S who s t i w (else-same w event.FinishesAndStarts (Some x) there runs moves starts ends) r x before
      (ap (λ (a : Option Running). worker_of S w.0 (or_else a (running_at t w.0))) was) was is seat (rest-starts w event.FinishesAndStarts (Some x) there runs moves starts ends)
      (omega (arith, starts)) rest alone holds seats

  happens-goes : (told : Reply) → RunMoves s t.running t.next told → count_events is_starting (instr_events S s i (t, told)) ≡ cond (tells_of is_start told) 1 0
      → count_events is_ending (instr_events S s i (t, told)) ≡ cond (tells_of is_end told) 1 0 → Happens S s t.running t.time told → Goes S who s t i told before
  happens-goes told moves starts ends (Happens.nothing runs still silent) =
      let tells = silent-tells told silent in
      quiet-goes S who s t i told before (starts ∙ ap (λ (b : Bool). cond {A = ℕ} b 1 0) tells.0) (ends ∙ ap (λ (b : Bool). cond {A = ℕ} b 1 0) tells.1)
      (holds-on S who s t before (seats-equal S who s t runs) holds)
  happens-goes told moves starts ends (Happens.passes settled runs on silent) =
      let tells = silent-tells told silent in
      quiet-goes S who s t i told before (starts ∙ ap (λ (b : Bool). cond {A = ℕ} b 1 0) tells.0) (ends ∙ ap (λ (b : Bool). cond {A = ℕ} b 1 0) tells.1)
      (holds-on S who s t before (λ w. subst (λ (rs : List (Option Running)). SameSeats S who (running_at s w) (slice_index_or rs w None)) (sym runs) (seats-burned S who (burns S s) 0 s.running w)) holds)
  happens-goes told moves starts ends (Happens.moves w e q there runs still is changes) =
      subst (λ (r : Reply). Goes S who s t i r before) (sym is)
      (changes-goes w e (running_at s w.0) q refl there runs (subst (λ (r : Reply). RunMoves s t.running t.next r) is moves)
      (subst (λ (r : Reply). count_events is_starting (instr_events S s i (t, r)) ≡ cond {A = ℕ} (tells_of is_start r) 1 0) is starts)
      (subst (λ (r : Reply). count_events is_ending (instr_events S s i (t, r)) ≡ cond {A = ℕ} (tells_of is_end r) 1 0) is ends) changes)

-- So does each instruction of a run.
pub turn : (S : ScenarioContents) (who : KernelTask) (s : State) (i : Instr) (before : Option ℕ) → IsTraced S s → Alone S who s → Alone S who (table S s i).0 → Holds S who s before
    → Goes S who s (table S s i).0 i (table S s i).1 before
turn S who s i before traced alone alone_then holds =
    let after = table S s i in
    happens-goes S who s after.0 i before traced.old traced.long alone alone_then holds after.1 (table-moves S s i) (starts-counted S s i traced) (ends-told S s after.0 i after.1) (table-does S s i)
