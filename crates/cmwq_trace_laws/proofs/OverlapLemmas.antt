-- At each instruction the executions by a task go on one behind another.
use Rattle.std.proofs.Common.{◌≡◌, ℕ, zero, suc, ◌<◌, ◌≤◌, Bool, true, false, true≢false, cond, List, [], ◌∷◌, ◌++◌, length, replicate, Option, Some, None, arith, refl, sym, ap, ◌∙◌, subst}
use Rattle.std.proofs.lemmas.Bool.{and_parts, eqb-true, eqb-false}
use Rattle.std.proofs.lemmas.List.{get_or-set_other, length-replicate}
use Rattle.std.specs.Prelude.{option_to_list, slice_index_or, slice_set, ◌==◌}
use Rattle.cmwq_types.specs.Contents.{ScenarioContents}
use Rattle.cmwq_types.specs.Faults.{IsValid}
use Rattle.cmwq_types.specs.declared.instr.Instr.{Instr}
use Rattle.cmwq_types.specs.declared.instr.WorkId.{WorkId}
use Rattle.cmwq_types.specs.declared.reply.Event.{Event}
use Rattle.cmwq_types.specs.declared.reply.Event.TheVariants as event
use Rattle.cmwq_types.specs.declared.reply.Reply.{Reply}
use Rattle.cmwq_types.specs.declared.reply.Reply.TheVariants as reply
use Rattle.cmwq_table.specs.declared.state.Running.{Running}
use Rattle.cmwq_table.specs.Counts.{burns}
use Rattle.cmwq_table.specs.Laws.{HasOneRescuer, InEveryState}
use Rattle.cmwq_table.specs.State.{State, running_at}
use Rattle.cmwq_table.specs.Table.{run, table}
use Rattle.cmwq_table.specs.Told.{is_end, is_start, tells_of}
use Rattle.cmwq_burning.specs.Burning.{starts_work}
use Rattle.cmwq_burning.proofs.Happening.{Changes, Happens, table-does}
use Rattle.cmwq_events.specs.KernelTasks.{executor}
use Rattle.cmwq_events.specs.declared.kernel_task.KernelTask.{KernelTask}
use Rattle.cmwq_slices.specs.Executions.{execution_begun, execution_ended, execution_to, executions_after, no_executions}
use Rattle.cmwq_slices.specs.declared.executions.Execution.{Execution}
use Rattle.cmwq_slices.specs.declared.executions.OpenExecution.{OpenExecution}
use Rattle.cmwq_slices.proofs.CallerLemmas.{executions_after-length}
use Rattle.cmwq_trace_laws.specs.EventLaws.{InOrder, NeverOverlaps, executions_from, executions_of, is_same_task}
use Rattle.cmwq_trace_laws.proofs.AloneLemmas.{alone-at, one-more}
use Rattle.cmwq_trace_laws.proofs.ExecutionLemmas.{Since, Tracks, TracksAt, by_it, closes, tracked}
use Rattle.cmwq_trace_laws.proofs.StampLemmas.{RunMoves, table-moves}
use Rattle.cmwq_trace_laws.proofs.StartLemmas.{run-traced, runs-at, some-none, tells_again}
use Rattle.cmwq_trace_laws.proofs.TaskLemmas.{Alone, SameSeats, has, seats-burned, seats-equal}
use Rattle.cmwq_trace_laws.proofs.TimeLemmas.{happens-later}
use Rattle.cmwq_trace_laws.proofs.TurnLemmas.{seat-of, silent-tells}

-- An instruction that tells no start and no end leaves the open executions as they are.

silent-after : (t : State) (told : Reply) (executing : List (Option OpenExecution)) → tells_of is_start told ≡ false → tells_of is_end told ≡ false → executions_after t told executing ≡ executing
silent-after t (reply.Event w e) executing no_start no_end =
    ap (λ (b : Bool). cond b (slice_set executing w.0 (execution_begun t.time (running_at t w.0))) (cond (is_end e) (slice_set executing w.0 None) executing)) no_start
    ∙ ap (λ (b : Bool). cond b (slice_set executing w.0 None) executing) no_end
silent-after t other executing no_start no_end = refl

silent-ended : (t : State) (told : Reply) (executing : List (Option OpenExecution)) → tells_of is_end told ≡ false → execution_ended t told executing ≡ None
silent-ended t (reply.Event w e) executing no_end = ap (λ (b : Bool). cond b (execution_to t.time w.0 (slice_index_or executing w.0 None)) None) no_end
silent-ended t other executing no_end = refl

none-some : (x : OpenExecution) → ◌≡◌ {A = Option OpenExecution} None (Some x) → ⊥
none-some x e = cc

-- The work that moves, and the others.

set-there : (xs : List (Option Running)) (i : ℕ) (x : Option Running) → i < length xs → slice_index_or (slice_set xs i x) i None ≡ x
set-there [] i x there = absurd (omega (arith, there))
set-there (y ∷ ys) zero x there = refl
set-there (y ∷ ys) (suc i) x there = set-there ys i x (omega (arith, there))

else-same : (s t : State) (w : WorkId) (q : Option Running) → t.running ≡ slice_set s.running w.0 q → (v : ℕ) → (v ≡ w.0 → ⊥) → running_at t v ≡ running_at s v
else-same s t w q runs v apart = ap (λ (rs : List (Option Running)). slice_index_or rs v None) runs ∙ get_or-set_other s.running w.0 v q None apart

here-now : (s t : State) (w : WorkId) (q : Option Running) → t.running ≡ slice_set s.running w.0 q → w.0 < length s.running → running_at t w.0 ≡ q
here-now s t w q runs there = ap (λ (rs : List (Option Running)). slice_index_or rs w.0 None) runs ∙ set-there s.running w.0 q there

seat-itself : (S : ScenarioContents) (who : KernelTask) (o : Option Running) → SameSeats S who o o
seat-itself S who (Some r) = (refl, refl)
seat-itself S who None = tt

seats-now : (S : ScenarioContents) (who : KernelTask) (s t : State) (w : WorkId) (q : Option Running) → t.running ≡ slice_set s.running w.0 q → (told : Reply) → RunMoves s t.running t.next told
    → (r x : Running) → running_at s w.0 ≡ Some r → running_at t w.0 ≡ Some x → (starts_work w.0 told ≡ true → tells_again w.0 told ≡ false → ⊥) → (v : ℕ) → SameSeats S who (running_at s v) (running_at t v)
seats-now S who s t w q runs told moves r x was is begun v = at (v == w.0) refl where
  own : (a b : Option Running) → a ≡ Some r → b ≡ Some x → SameSeats S who a b
  own a b a_is b_is =
      subst (λ (c : Option Running). SameSeats S who c b) (sym a_is) (subst (λ (c : Option Running). SameSeats S who (Some r) c) (sym b_is)
      (seat-of s t.next told w.0 r x (running_at t w.0) was is (runs-at s t.running t.next told moves w.0) begun))

  at : (c : Bool) → (v == w.0) ≡ c → SameSeats S who (running_at s v) (running_at t v)
  at true same = let v_is = eqb-true v w.0 same in own (running_at s v) (running_at t v) (ap (λ (u : ℕ). running_at s u) v_is ∙ was) (ap (λ (u : ℕ). running_at t u) v_is ∙ is)
  at false differs = subst (λ (o : Option Running). SameSeats S who (running_at s v) o) (sym (else-same s t w q runs v (eqb-false v w.0 differs))) (seat-itself S who (running_at s v))

tracks-on : (S : ScenarioContents) (who : KernelTask) (a b : ℕ) (o p : Option Running) (e : Option OpenExecution) → a ≤ b → SameSeats S who o p → TracksAt a o e → TracksAt b p e
tracks-on S who a b (Some r) (Some q) (Some x) later seat tracks = (tracks.0 ∙ sym seat.0, tracks.1 ∙ sym seat.1, omega (arith, tracks.2, later))
tracks-on S who a b (Some r) (Some q) None later seat tracks = absurd tracks
tracks-on S who a b (Some r) None e later seat tracks = absurd seat
tracks-on S who a b None (Some q) e later seat tracks = absurd seat
tracks-on S who a b None None (Some x) later seat tracks = absurd tracks
tracks-on S who a b None None None later seat tracks = tt

tracks-later : (a b : ℕ) (o : Option Running) (e : Option OpenExecution) → a ≤ b → TracksAt a o e → TracksAt b o e
tracks-later a b (Some r) (Some x) later tracks = (tracks.0, tracks.1, omega (arith, tracks.2, later))
tracks-later a b (Some r) None later tracks = absurd tracks
tracks-later a b None (Some x) later tracks = absurd tracks
tracks-later a b None None later tracks = tt

set-open : (xs : List (Option OpenExecution)) (i : ℕ) (x : Option OpenExecution) → i < length xs → slice_index_or (slice_set xs i x) i None ≡ x
set-open [] i x there = absurd (omega (arith, there))
set-open (y ∷ ys) zero x there = refl
set-open (y ∷ ys) (suc i) x there = set-open ys i x (omega (arith, there))

-- what is open of a work that runs
record Opened (time : ℕ) (old : Running) (e : Option OpenExecution) : Type 0 where
  x : OpenExecution
  is : e ≡ Some x
  pool : x.pool ≡ old.pool
  worker : x.worker ≡ old.worker
  since : x.since ≤ time

opened : (time : ℕ) (o : Option Running) (old : Running) (e : Option OpenExecution) → o ≡ Some old → TracksAt time o e → Opened time old e
opened time (Some r) old (Some x) is tracks =
    let same : r ≡ old = cc in
    record { x = x; is = refl; pool = tracks.0 ∙ ap (λ (q : Running). q.pool) same; worker = tracks.1 ∙ ap (λ (q : Running). q.worker) same; since = tracks.2 }
opened time (Some r) old None is tracks = absurd tracks
opened time None old e is tracks = absurd (some-none old (sym is))

module _ (S : ScenarioContents) (who : KernelTask) (s t : State) (executing : List (Option OpenExecution)) (from : ℕ) (tracks : Tracks s executing) (since : Since S who from executing)
    (early : from ≤ s.time) (later : s.time ≤ t.time) (long : length executing ≡ length S.works) (alone : Alone S who s) where
  abbrev Next : Reply → Type 0
  Next told =
      (rest : List Execution)
      → ((f : ℕ) → f ≤ t.time → Tracks t (executions_after t told executing) → Since S who f (executions_after t told executing) → InOrder f (executions_of S who rest))
      → InOrder from (executions_of S who (option_to_list (execution_ended t told executing) ++ rest))

  quiet-next : (told : Reply) → tells_of is_start told ≡ false → tells_of is_end told ≡ false → ((w : ℕ) → SameSeats S who (running_at s w) (running_at t w)) → Next told
  quiet-next told no_start no_end seats rest more =
      let stays = sym (silent-after t told executing no_start no_end) in
      subst (λ (o : Option Execution). InOrder from (executions_of S who (option_to_list o ++ rest))) (sym (silent-ended t told executing no_end))
      (more from (omega (arith, early, later))
      (subst (λ (e : List (Option OpenExecution)). Tracks t e) stays (λ w. tracks-on S who s.time t.time (running_at s w) (running_at t w) (slice_index_or executing w None) later (seats w) (tracks w)))
      (subst (λ (e : List (Option OpenExecution)). Since S who from e) stays since))

  -- One work changes.

  module _ (w : WorkId) (there : w.0 < length S.works) (else_same : (v : ℕ) → (v ≡ w.0 → ⊥) → running_at t v ≡ running_at s v) where
    in-range : w.0 < length executing
    in-range = omega (arith, there, long)

    set-tracks : (e : Option OpenExecution) → TracksAt t.time (running_at t w.0) e → Tracks t (slice_set executing w.0 e)
    set-tracks e own v = at (v == w.0) refl where
      at : (c : Bool) → (v == w.0) ≡ c → TracksAt t.time (running_at t v) (slice_index_or (slice_set executing w.0 e) v None)
      at true same =
          subst (λ (u : ℕ). TracksAt t.time (running_at t u) (slice_index_or (slice_set executing w.0 e) u None)) (sym (eqb-true v w.0 same))
          (subst (λ (x : Option OpenExecution). TracksAt t.time (running_at t w.0) x) (sym (set-open executing w.0 e in-range)) own)
      at false differs =
          let apart = eqb-false v w.0 differs in
          subst (λ (o : Option Running). TracksAt t.time o (slice_index_or (slice_set executing w.0 e) v None)) (sym (else_same v apart))
          (subst (λ (x : Option OpenExecution). TracksAt t.time (running_at s v) x) (sym (get_or-set_other executing w.0 v e None apart))
          (tracks-later s.time t.time (running_at s v) (slice_index_or executing v None) later (tracks v)))

    set-since : (f : ℕ) (e : Option OpenExecution) → ((x : OpenExecution) → e ≡ Some x → f ≤ x.since)
        → ((v : ℕ) (x : OpenExecution) → (v ≡ w.0 → ⊥) → slice_index_or executing v None ≡ Some x → by_it S who v x ≡ true → f ≤ x.since) → Since S who f (slice_set executing w.0 e)
    set-since f e own others v x is by = at (v == w.0) refl where
      at : (c : Bool) → (v == w.0) ≡ c → f ≤ x.since
      at true same = own x (sym (set-open executing w.0 e in-range) ∙ ap (λ (u : ℕ). slice_index_or (slice_set executing w.0 e) u None) (sym (eqb-true v w.0 same)) ∙ is)
      at false differs = let apart = eqb-false v w.0 differs in others v x apart (sym (get_or-set_other executing w.0 v e None apart) ∙ is) by

    begun-since : (r : Running) (x : OpenExecution) → execution_begun t.time (running_at t w.0) ≡ Some x → running_at t w.0 ≡ Some r → x.since ≡ t.time
    begun-since r x is runs = sym (since_is (ap (λ (o : Option Running). execution_begun t.time o) (sym runs) ∙ is)) where
      since_is : execution_begun t.time (Some r) ≡ Some x → t.time ≡ x.since
      since_is e = cc

    begun-tracks : (r : Running) → running_at t w.0 ≡ Some r → TracksAt t.time (running_at t w.0) (execution_begun t.time (running_at t w.0))
    begun-tracks r runs = subst (λ (o : Option Running). TracksAt t.time o (execution_begun t.time o)) (sym runs) (refl, refl, omega arith)

    starts-next : (e : Event) (r : Running) → is_start e ≡ true → is_end e ≡ false → running_at t w.0 ≡ Some r → Next (reply.Event w e)
    starts-next e r starts no_end runs rest more =
        let begun = execution_begun t.time (running_at t w.0) in
        let after : executions_after t (reply.Event w e) executing ≡ slice_set executing w.0 begun =
        ap (λ (b : Bool). cond b (slice_set executing w.0 begun) (cond (is_end e) (slice_set executing w.0 None) executing)) starts in
        subst (λ (o : Option Execution). InOrder from (executions_of S who (option_to_list o ++ rest))) (sym (silent-ended t (reply.Event w e) executing no_end))
        (more from (omega (arith, early, later))
        (subst (λ (x : List (Option OpenExecution)). Tracks t x) (sym after) (set-tracks begun (begun-tracks r runs)))
        (subst (λ (x : List (Option OpenExecution)). Since S who from x) (sym after)
        (set-since from begun (λ x is. let at = begun-since r x is runs in omega (arith, at, early, later)) (λ v x apart is by. since v x is by))))

    -- an execution ends, and this is open then
    ends-next : (e : Event) (old : Running) (then : Option OpenExecution) → is_end e ≡ true → running_at s w.0 ≡ Some old → executions_after t (reply.Event w e) executing ≡ slice_set executing w.0 then
        → TracksAt t.time (running_at t w.0) then → ((x : OpenExecution) → then ≡ Some x → x.since ≡ t.time) → Next (reply.Event w e)
    ends-next e old then ends was after own begins rest more =
        subst (λ (o : Option Execution). InOrder from (executions_of S who (option_to_list o ++ rest))) (sym ended) (chosen (by_it S who w.0 found.x) refl) where
          found : Opened s.time old (slice_index_or executing w.0 None)
          found = opened s.time (running_at s w.0) old (slice_index_or executing w.0 None) was (tracks w.0)

          one : Execution
          one = record { work = record { 0 = w.0 }; born = found.x.born; pool = found.x.pool; worker = found.x.worker; since = found.x.since; until = t.time }

          ended : execution_ended t (reply.Event w e) executing ≡ Some one
          ended =
              ap (λ (b : Bool). cond b (execution_to t.time w.0 (slice_index_or executing w.0 None)) None) ends
              ∙ ap (λ (o : Option OpenExecution). execution_to t.time w.0 o) found.is

          tracks_then : Tracks t (executions_after t (reply.Event w e) executing)
          tracks_then = subst (λ (x : List (Option OpenExecution)). Tracks t x) (sym after) (set-tracks then own)

          since_then : (f : ℕ) → f ≤ t.time → ((v : ℕ) (x : OpenExecution) → (v ≡ w.0 → ⊥) → slice_index_or executing v None ≡ Some x → by_it S who v x ≡ true → f ≤ x.since)
              → Since S who f (executions_after t (reply.Event w e) executing)
          since_then f before others =
              subst (λ (x : List (Option OpenExecution)). Since S who f x) (sym after) (set-since f then (λ x is. let at = begins x is in omega (arith, at, before)) others)

          own_has : by_it S who w.0 found.x ≡ true → has S who w.0 old ≡ true
          own_has by =
              sym (ap (λ (p : ℕ). is_same_task (executor S w.0 p found.x.worker) who) found.pool ∙ ap (λ (n : ℕ). is_same_task (executor S w.0 old.pool n) who) found.worker) ∙ by

          no_other : by_it S who w.0 found.x ≡ true → (v : ℕ) (x : OpenExecution) → (v ≡ w.0 → ⊥) → slice_index_or executing v None ≡ Some x → by_it S who v x ≡ true → t.time ≤ x.since
          no_other here v x apart is by =
              let a = tracked S who s.time v (running_at s v) x (slice_index_or executing v None) (tracks v) is by in
              absurd (apart (alone v w.0 a.0 old a.1 was a.2 (own_has here)))

          chosen : (b : Bool) → by_it S who w.0 found.x ≡ b → InOrder from (cond b (one ∷ executions_of S who rest) (executions_of S who rest))
          chosen true here =
              let begun = found.since in
              (since w.0 found.x found.is here, omega (arith, begun, later), more t.time (omega arith) tracks_then (since_then t.time (omega arith) (no_other here)))
          chosen false here = more from (omega (arith, early, later)) tracks_then (since_then from (omega (arith, early, later)) (λ v x apart is by. since v x is by))

  changes-next : (w : WorkId) (e : Event) (o q : Option Running) → running_at s w.0 ≡ o → w.0 < length S.works → length s.running ≡ length S.works → t.running ≡ slice_set s.running w.0 q
      → RunMoves s t.running t.next (reply.Event w e) → Changes S w.0 o q e → Next (reply.Event w e)
  changes-next w e o q was there many runs moves (Changes.starts r _ pool at begun not_end) =
      starts-next w there (else-same s t w q runs) e r begun not_end (here-now s t w q runs (omega (arith, there, many)))
  changes-next w e o q was there many runs moves (Changes.goes_on r x _ pool left no_start no_end) =
      quiet-next (reply.Event w e) no_start no_end
      (seats-now S who s t w q runs (reply.Event w e) moves r x was (here-now s t w q runs (omega (arith, there, many))) (λ begun never. true≢false (sym (and_parts (is_start e) (w.0 == w.0) begun).0 ∙ no_start)))
  changes-next w e o q was there many runs moves (Changes.ends r ended) =
      ends-next w there (else-same s t w q runs) event.Finishes r None refl was refl
      (subst (λ (x : Option Running). TracksAt t.time x None) (sym (here-now s t w None runs (omega (arith, there, many)))) tt) (λ x is. absurd (none-some x is))
  changes-next w e o q was there many runs moves (Changes.again r x pool ended at) =
      let now = here-now s t w (Some x) runs (omega (arith, there, many)) in
      ends-next w there (else-same s t w q runs) event.FinishesAndStarts r (execution_begun t.time (running_at t w.0)) refl was refl
      (begun-tracks w there (else-same s t w q runs) x now) (λ y is. begun-since w there (else-same s t w q runs) x y is now)

  happens-next : (told : Reply) → length s.running ≡ length S.works → RunMoves s t.running t.next told → Happens S s t.running t.time told → Next told
  happens-next told many moves (Happens.nothing runs still silent) = let tells = silent-tells told silent in quiet-next told tells.0 tells.1 (seats-equal S who s t runs)
  happens-next told many moves (Happens.passes settled runs on silent) =
      let tells = silent-tells told silent in
      quiet-next told tells.0 tells.1 (λ w. subst (λ (rs : List (Option Running)). SameSeats S who (running_at s w) (slice_index_or rs w None)) (sym runs) (seats-burned S who (burns S s) 0 s.running w))
  happens-next told many moves (Happens.moves w e q there runs still is changes) =
      subst (λ (r : Reply). Next r) (sym is) (changes-next w e (running_at s w.0) q refl there many runs (subst (λ (r : Reply). RunMoves s t.running t.next r) is moves) changes)

-- Along a run.

module _ (S : ScenarioContents) (valid : IsValid S) (law : InEveryState HasOneRescuer) (who : KernelTask) where
  in-order : (done instrs : List Instr) (executing : List (Option OpenExecution)) (from : ℕ) → Tracks (run S done) executing → Since S who from executing → from ≤ (run S done).time → length executing ≡ length S.works
      → InOrder from (executions_of S who (executions_from S executing (run S done) instrs))
  in-order done [] executing from tracks since early long = closes S who (run S done) executing from tracks since (alone-at S valid law who done)
  in-order done (i ∷ is) executing from tracks since early long =
      let s = run S done in
      let after = table S s i in
      let found = executions_after after.0 after.1 executing in
      happens-next S who s after.0 executing from tracks since early (happens-later S s after.0 after.1 (table-does S s i)) long (alone-at S valid law who done) after.1 (run-traced S done).long (table-moves S s i) (table-does S s i)
      (executions_from S found after.0 is)
      (λ f before tracks_then since_then. subst (λ (u : State). InOrder f (executions_of S who (executions_from S found u is))) (one-more S valid law who done i)
      (in-order (done ++ i ∷ []) is found f (subst (λ (u : State). Tracks u found) (sym (one-more S valid law who done i)) tracks_then) since_then
      (subst (λ (u : State). f ≤ u.time) (sym (one-more S valid law who done i)) before) (executions_after-length after.0 after.1 executing ∙ long)))

none-tracks : (n w : ℕ) → TracksAt 0 (slice_index_or (replicate n None) w None) (slice_index_or (replicate n None) w None)
none-tracks zero w = tt
none-tracks (suc n) zero = tt
none-tracks (suc n) (suc w) = none-tracks n w

none-open : (n w : ℕ) (x : OpenExecution) → slice_index_or (replicate n None) w None ≡ Some x → ⊥
none-open zero w x is = none-some x is
none-open (suc n) zero x is = none-some x is
none-open (suc n) (suc w) x is = none-open n w x is

pub never_overlaps : InEveryState HasOneRescuer → NeverOverlaps
unfolding NeverOverlaps
never_overlaps law S valid instrs who =
    in-order S valid law who [] instrs (no_executions (length S.works)) 0 (none-tracks (length S.works)) (λ w x is by. absurd (none-open (length S.works) w x is)) (omega arith) (length-replicate (length S.works) None)
