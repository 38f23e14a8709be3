-- Each task executes one work after another.
use Rattle.std.proofs.Common.{◌≡◌, ℕ, zero, suc, ◌+◌, Bool, true, false, true≢false, cond, List, [], ◌∷◌, ◌++◌, length, Option, Some, None, refl, sym, ap, ◌∙◌, subst}
use Rattle.std.proofs.lemmas.Bool.{eqb-true, eqb-false}
use Rattle.std.specs.List.{flat_map}
use Rattle.std.specs.Prelude.{slice_index_or, ◌==◌}
use Rattle.cmwq_types.specs.Contents.{ScenarioContents}
use Rattle.cmwq_types.specs.declared.instr.Instr.{Instr}
use Rattle.cmwq_types.specs.declared.instr.WorkId.{WorkId}
use Rattle.cmwq_types.specs.declared.reply.Event.{Event}
use Rattle.cmwq_types.specs.declared.reply.Event.TheVariants as event
use Rattle.cmwq_types.specs.declared.reply.Reply.{Reply}
use Rattle.cmwq_types.specs.declared.reply.Reply.TheVariants as reply
use Rattle.cmwq_table.specs.declared.state.Running.{Running}
use Rattle.cmwq_table.specs.Moves.{burned, one_less}
use Rattle.cmwq_table.specs.State.{State, running_at}
use Rattle.cmwq_events.specs.KernelEvents.{doer_of, instance_events, instr_events, stamped_below}
use Rattle.cmwq_events.specs.KernelTasks.{executor}
use Rattle.cmwq_events.specs.declared.kernel_event.KernelEvent.{KernelEvent}
use Rattle.cmwq_events.specs.declared.kernel_task.KernelTask.{KernelTask}
use Rattle.cmwq_trace_laws.specs.EventLaws.{Alternates, count_events, events_of, is_ending, is_same_task, is_starting}
use Rattle.cmwq_trace_laws.proofs.MarkLemmas.{StartsOf, all-by, of-by, passes-by, start-by}
use Rattle.cmwq_trace_laws.proofs.StampLemmas.{IsSeat}
use Rattle.cmwq_trace_laws.proofs.StartLemmas.{false-or, some-none}

abbrev pub some_or : Running → Option Running → Running
some_or d (Some r) = r
some_or d None = d

-- What a task executes.

module _ (S : ScenarioContents) (who : KernelTask) where
  abbrev pub has : ℕ → Running → Bool
  has w r = is_same_task (executor S w r.pool r.worker) who

  abbrev pub Holds : State → Option ℕ → Type 0
  Holds s None = (w : ℕ) (r : Running) → running_at s w ≡ Some r → has w r ≡ false
  Holds s (Some w) = (r : Running) × (running_at s w ≡ Some r) × (has w r ≡ true)

  -- of the works that run no two do so on it
  abbrev pub Alone : State → Type 0
  Alone s = (v w : ℕ) (a b : Running) → running_at s v ≡ Some a → running_at s w ≡ Some b → has v a ≡ true → has w b ≡ true → v ≡ w

  has-same : (w : ℕ) (a b : Running) → IsSeat a b → has w b ≡ has w a
  has-same w a b seat =
      ap (λ (pool : ℕ). is_same_task (executor S w pool b.worker) who) seat.0 ∙ ap (λ (worker : ℕ). is_same_task (executor S w a.pool worker) who) seat.1

  -- Who runs goes on where it runs.

  abbrev pub SameSeats : Option Running → Option Running → Type 0
  SameSeats (Some a) (Some b) = IsSeat a b
  SameSeats None None = Unit {0}
  SameSeats a b = ⊥

  same-none : (w : ℕ) (a : Option Running) (r : Running) → SameSeats a (Some r) → ((x : Running) → a ≡ Some x → has w x ≡ false) → has w r ≡ false
  same-none w (Some a) r seat none = has-same w a r seat ∙ none a refl
  same-none w None r seat none = absurd seat

  same-some : (w : ℕ) (x : Running) (b : Option Running) → SameSeats (Some x) b → has w x ≡ true → (r : Running) × (b ≡ Some r) × (has w r ≡ true)
  same-some w x (Some b) seat is = (b, refl, has-same w x b seat ∙ is)
  same-some w x None seat is = absurd seat

  pub holds-on : (s t : State) (before : Option ℕ) → ((w : ℕ) → SameSeats (running_at s w) (running_at t w)) → Holds s before → Holds t before
  holds-on s t None same none = λ w r is. same-none w (running_at s w) r (subst (λ (o : Option Running). SameSeats (running_at s w) o) is (same w)) (none w)
  holds-on s t (Some w) same there =
      same-some w there.0 (running_at t w) (subst (λ (o : Option Running). SameSeats o (running_at t w)) there.1 (same w)) there.2

  pub seat-itself : (o : Option Running) → SameSeats o o
  seat-itself (Some r) = (refl, refl)
  seat-itself None = tt

  pub seats-equal : (s t : State) → t.running ≡ s.running → (w : ℕ) → SameSeats (running_at s w) (running_at t w)
  seats-equal s t runs w = subst (λ (rs : List (Option Running)). SameSeats (running_at s w) (slice_index_or rs w None)) (sym runs) (seat-itself (running_at s w))

  seat-burned : (b : Bool) (o : Option Running) → SameSeats o (cond b (one_less o) o)
  seat-burned true (Some r) = (refl, refl)
  seat-burned true None = tt
  seat-burned false o = seat-itself o

  pub seats-burned : (test : ℕ → Option Running → Bool) (k : ℕ) (rs : List (Option Running)) (w : ℕ) → SameSeats (slice_index_or rs w None) (slice_index_or (burned test k rs) w None)
  seats-burned test k [] w = tt
  seats-burned test k (r ∷ rs) zero = seat-burned (test k r) r
  seats-burned test k (r ∷ rs) (suc w) = seats-burned test (k + 1) rs w

  -- One step.

  module _ (s t : State) (i : Instr) where
    abbrev pub events : Reply → List KernelEvent
    events told = instr_events S s i (t, told)

    -- the events of an instruction are the task's, or not
    of-task : (told : Reply) (b : Bool) → is_same_task (doer_of S s i (t, told)).task who ≡ b → events_of who (events told) ≡ cond b (events told) []
    of-task told b is = of-by who (doer_of S s i (t, told)).task (events told) b is (all-by (doer_of S s i (t, told)) s.next told (stamped_below t s.next (length S.works)))

    abbrev pub Goes : Reply → Option ℕ → Type 0
    Goes told before = (more : List KernelEvent) → ((b : Option ℕ) → Holds t b → Alternates b more) → Alternates before (events_of who (events told) ++ more)

    -- none of its events starts or ends anything
    pub quiet-goes : (told : Reply) (before : Option ℕ) → count_events is_starting (events told) ≡ 0 → count_events is_ending (events told) ≡ 0 → Holds t before → Goes told before
    quiet-goes told before starts ends holds more rest = chosen (is_same_task (doer_of S s i (t, told)).task who) refl where
      chosen : (b : Bool) → is_same_task (doer_of S s i (t, told)).task who ≡ b → Alternates before (events_of who (events told) ++ more)
      chosen true is =
          subst (λ (xs : List KernelEvent). Alternates before (xs ++ more)) (sym (of-task told true is)) (passes-by before (events told) more starts ends (rest before holds))
      chosen false is = subst (λ (xs : List KernelEvent). Alternates before (xs ++ more)) (sym (of-task told false is)) (rest before holds)

    -- they are another task's
    other-goes : (told : Reply) (before : Option ℕ) → is_same_task (doer_of S s i (t, told)).task who ≡ false → Holds t before → Goes told before
    other-goes told before is holds more rest = subst (λ (xs : List KernelEvent). Alternates before (xs ++ more)) (sym (of-task told false is)) (rest before holds)

    -- A work of its own.

    module _ (w : WorkId) (else_same : (v : ℕ) → (v ≡ w.0 → ⊥) → running_at t v ≡ running_at s v) where
      -- it starts
      pub begins-goes : (e : Event) (r : Running) (before : Option ℕ) → (doer_of S s i (t, reply.Event w e)).task ≡ executor S w.0 r.pool r.worker → running_at s w.0 ≡ None → running_at t w.0 ≡ Some r
          → StartsOf w.0 (events (reply.Event w e)) → count_events is_starting (events (reply.Event w e)) ≡ 1 → count_events is_ending (events (reply.Event w e)) ≡ 0 → Alone t → Holds s before → Goes (reply.Event w e) before
      begins-goes e r before by was is of starts ends alone holds = chosen (has w.0 r) refl where
        apart : (v : ℕ) (x : Running) → running_at s v ≡ Some x → v ≡ w.0 → ⊥
        apart v x there same = some-none x (sym there ∙ ap (λ (u : ℕ). running_at s u) same ∙ was)

        own : (b : Option ℕ) → Holds s b → has w.0 r ≡ true → b ≡ None
        own None holds here = refl
        own (Some v) holds here =
            absurd (apart v holds.0 holds.1 (alone v w.0 holds.0 r (else_same v (apart v holds.0 holds.1) ∙ holds.1) is holds.2 here))

        other : (b : Option ℕ) → Holds s b → has w.0 r ≡ false → Holds t b
        other None none here = λ v x there. at v x there (v == w.0) refl where
          at : (v : ℕ) (x : Running) → running_at t v ≡ Some x → (c : Bool) → (v == w.0) ≡ c → has v x ≡ false
          at v x there true same =
              let here_is : v ≡ w.0 = eqb-true v w.0 same in
              let one : Some x ≡ Some r = sym there ∙ ap (λ (u : ℕ). running_at t u) here_is ∙ is in
              ap (λ (u : ℕ). has u x) here_is ∙ ap (λ (o : Option Running). has w.0 (some_or r o)) one ∙ here
          at v x there false differs = none v x (sym (else_same v (eqb-false v w.0 differs)) ∙ there)
        other (Some v) holds here = (holds.0, else_same v (apart v holds.0 holds.1) ∙ holds.1, holds.2)

        chosen : (b : Bool) → has w.0 r ≡ b → Goes (reply.Event w e) before
        chosen true here more rest =
            let same = ap (λ (task : KernelTask). is_same_task task who) by ∙ here in
            subst (λ (b : Option ℕ). Alternates b (events_of who (events (reply.Event w e)) ++ more)) (sym (own before holds here))
            (subst (λ (xs : List KernelEvent). Alternates None (xs ++ more)) (sym (of-task (reply.Event w e) true same))
            (start-by w.0 (events (reply.Event w e)) more of starts ends (rest (Some w.0) (r, is, here))))
        chosen false here more rest =
            other-goes (reply.Event w e) before (ap (λ (task : KernelTask). is_same_task task who) by ∙ here) (other before holds here) more rest

      -- it ends, and maybe starts again

      abbrev pub behind : Event → List KernelEvent
      behind e = flat_map (λ one. instance_events (doer_of S s i (t, reply.Event w e)) s.next (reply.Event w e) one.work one.instance) (stamped_below t s.next (length S.works))

      held : (old : Running) (before : Option ℕ) → running_at s w.0 ≡ Some old → has w.0 old ≡ true → Alone s → Holds s before → before ≡ Some w.0
      held old None was here alone none = absurd (true≢false (sym here ∙ none w.0 old was))
      held old (Some v) was here alone holds = ap (λ (u : ℕ). Some u) (alone v w.0 holds.0 old holds.1 was holds.2 here)

      pub ends-goes : (old : Running) (before : Option ℕ) → (doer_of S s i (t, reply.Event w event.Finishes)).task ≡ executor S w.0 old.pool old.worker → running_at s w.0 ≡ Some old → running_at t w.0 ≡ None
          → count_events is_starting (behind event.Finishes) ≡ 0 → count_events is_ending (behind event.Finishes) ≡ 0 → Alone s → Holds s before → Goes (reply.Event w event.Finishes) before
      ends-goes old before by was is starts ends alone holds = chosen (has w.0 old) refl where
        free : has w.0 old ≡ true → Holds t None
        free here v x there = at (v == w.0) refl where
          at : (c : Bool) → (v == w.0) ≡ c → has v x ≡ false
          at true same = absurd (some-none x (sym there ∙ ap (λ (u : ℕ). running_at t u) (eqb-true v w.0 same) ∙ is))
          at false differs =
              let apart = eqb-false v w.0 differs in
              false-or (has v x) (λ both. apart (alone v w.0 x old (sym (else_same v apart) ∙ there) was both here))

        other : (b : Option ℕ) → Holds s b → has w.0 old ≡ false → Holds t b
        other None none here = λ v x there. at v x there (v == w.0) refl where
          at : (v : ℕ) (x : Running) → running_at t v ≡ Some x → (c : Bool) → (v == w.0) ≡ c → has v x ≡ false
          at v x there true same = absurd (some-none x (sym there ∙ ap (λ (u : ℕ). running_at t u) (eqb-true v w.0 same) ∙ is))
          at v x there false differs = none v x (sym (else_same v (eqb-false v w.0 differs)) ∙ there)
        other (Some v) holds here = (
          holds.0,
          else_same v (λ same. true≢false (sym holds.2 ∙ ap (λ (u : ℕ). has u holds.0) same
              ∙ ap (λ (o : Option Running). has w.0 (some_or old o)) (sym holds.1 ∙ ap (λ (u : ℕ). running_at s u) same ∙ was) ∙ here)) ∙ holds.1,
          holds.2,
        )

        chosen : (b : Bool) → has w.0 old ≡ b → Goes (reply.Event w event.Finishes) before
        chosen true here more rest =
            let same = ap (λ (task : KernelTask). is_same_task task who) by ∙ here in
            subst (λ (xs : List KernelEvent). Alternates before (xs ++ more)) (sym (of-task (reply.Event w event.Finishes) true same))
            (held old before was here alone holds, passes-by None (behind event.Finishes) more starts ends (rest None (free here)))
        chosen false here more rest =
            other-goes (reply.Event w event.Finishes) before (ap (λ (task : KernelTask). is_same_task task who) by ∙ here) (other before holds here) more rest

      pub again-goes : (old r : Running) (before : Option ℕ) → (doer_of S s i (t, reply.Event w event.FinishesAndStarts)).task ≡ executor S w.0 old.pool old.worker → running_at s w.0 ≡ Some old
          → running_at t w.0 ≡ Some r → IsSeat old r → StartsOf w.0 (behind event.FinishesAndStarts) → count_events is_starting (behind event.FinishesAndStarts) ≡ 1 → count_events is_ending (behind event.FinishesAndStarts) ≡ 0
          → Alone s → Holds s before → ((v : ℕ) → SameSeats (running_at s v) (running_at t v)) → Goes (reply.Event w event.FinishesAndStarts) before
      again-goes old r before by was is seat of starts ends alone holds seats = chosen (has w.0 old) refl where
        chosen : (b : Bool) → has w.0 old ≡ b → Goes (reply.Event w event.FinishesAndStarts) before
        chosen true here more rest =
            let same = ap (λ (task : KernelTask). is_same_task task who) by ∙ here in
            subst (λ (xs : List KernelEvent). Alternates before (xs ++ more)) (sym (of-task (reply.Event w event.FinishesAndStarts) true same))
            (held old before was here alone holds, start-by w.0 (behind event.FinishesAndStarts) more of starts ends (rest (Some w.0) (r, is, has-same w.0 old r seat ∙ here)))
        chosen false here more rest =
            other-goes (reply.Event w event.FinishesAndStarts) before (ap (λ (task : KernelTask). is_same_task task who) by ∙ here) (holds-on s t before seats holds) more rest
