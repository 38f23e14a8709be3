-- The events of a run are such that the file tells them.
use Rattle.std.proofs.Common.{◌≡◌, ℕ, ◌^◌, ◌<◌, ◌≤◌, Bool, true, true≢false, ◌&&◌, List, [], ◌∷◌, ◌++◌, length, Option, arith, refl, sym, ap, ◌∙◌, subst}
use Rattle.std.proofs.lemmas.Bool.{eq-eqb}
use Rattle.std.specs.List.{AllByRecursion}
use Rattle.std.specs.Prelude.{◌==◌}
use Rattle.cmwq_types.specs.Contents.{ScenarioContents}
use Rattle.cmwq_types.specs.Faults.{IsValid}
use Rattle.cmwq_types.specs.Setting.{IsSetting}
use Rattle.cmwq_types.specs.Values.{IsInstr, IsScenario}
use Rattle.cmwq_types.specs.declared.instr.Instr.{Instr}
use Rattle.cmwq_types.specs.declared.instr.WorkId.{WorkId}
use Rattle.cmwq_types.specs.declared.limits.TheConstants.{MAX_HISTORY}
use Rattle.cmwq_types.specs.declared.reply.Event.{Event}
use Rattle.cmwq_types.specs.declared.reply.Reply.{Reply}
use Rattle.cmwq_types.specs.declared.reply.Reply.TheVariants as reply
use Rattle.cmwq_types.proofs.SettingLemmas.{IsSetting-valid}
use Rattle.cmwq_table.proofs.CounterLemmas.{has_counters}
use Rattle.cmwq_table.proofs.RunLemmas.{after_all-append}
use Rattle.cmwq_table.specs.State.{State, pending_at, running_at, start}
use Rattle.cmwq_table.specs.Table.{run, table}
use Rattle.cmwq_table.specs.declared.state.Running.{Running}
use Rattle.cmwq_burning.proofs.Happening.{Happens, table-does}
use Rattle.cmwq_table.specs.Told.{is_end}
use Rattle.cmwq_burning.specs.Burning.{finishes_work}
use Rattle.cmwq_reasons.proofs.StaffLemmas.{run-staffed}
use Rattle.cmwq_blame_laws.proofs.Places.{IsReadyIf, run-ready, running-in_range}
use Rattle.cmwq_events.specs.KernelEvents.{instr_events, kernel_events, kernel_events_from}
use Rattle.cmwq_events.specs.declared.kernel_event.KernelEvent.{KernelEvent}
use Rattle.cmwq_trace_laws.specs.EventLaws.{GoesOn, NeverGoesBack}
use Rattle.cmwq_trace_data.specs.FileReading.{CanBeTold, file_read, told_by_cpus}
use Rattle.cmwq_trace_data.specs.Reading.{IsTellable, Rises}
use Rattle.cmwq_trace_data.specs.TraceData.{dat_bytes}
use Rattle.cmwq_trace_laws.specs.FileLaws.{TellsEachRun}
use Rattle.cmwq_trace_laws.proofs.FileCountLemmas.{run-few}
use Rattle.cmwq_trace_laws.proofs.FileDoerLemmas.{HasPid, asked_cpu-small, doing-pid, has-pid}
use Rattle.cmwq_trace_laws.proofs.FileEventLemmas.{AreTellable, all-both, instr-tellable}

goes-rises : (from : ℕ) (events : List KernelEvent) → GoesOn from events → Rises from events
goes-rises from [] goes = tt
goes-rises from (e ∷ events) goes = (goes.0, goes-rises e.time events goes.1)

-- the reply that tells an end is of a work that there is
end-there : (S : ScenarioContents) (s : State) (running : List (Option Running)) (time : ℕ) (told : Reply) (w : WorkId) (e : Event) → Happens S s running time told
    → told ≡ reply.Event w e → is_end e ≡ true → w.0 < length S.works
end-there S s running time told w e happens is ends = by happens where
  tells : finishes_work w.0 told ≡ true
  tells = ap (λ (r : Reply). finishes_work w.0 r) is ∙ (ap (λ (b : Bool). b && (w.0 == w.0)) ends ∙ eq-eqb w.0 w.0 refl)

  by : Happens S s running time told → w.0 < length S.works
  by (Happens.nothing runs still silent) = absurd (true≢false (sym tells ∙ (silent w.0).1))
  by (Happens.passes settled runs on silent) = absurd (true≢false (sym tells ∙ (silent w.0).1))
  by (Happens.moves v f q there runs still was changes) = (let same : v ≡ w = cc in subst (λ (x : WorkId). x.0 < length S.works) same there)

module _ (S : ScenarioContents) (valid : IsValid S) where
  setting : IsSetting S
  setting = IsSetting-valid S valid

  pids : (done : List Instr) (w : ℕ) → HasPid S w (running_at (run S done) w)
  pids done = has-pid S setting (run S done) (run-staffed S valid done) (λ w r there. running-in_range S done w r there)

  early : (done : List Instr) → (run S done).time ≤ 2 ^ 32
  early done =
      let counters = has_counters S valid done in
      let time = counters.time in
      let spent = counters.spent in
      let steps = setting.steps in
      omega (arith, time, spent, steps)

  one-more : (done : List Instr) (i : Instr) → run S (done ++ i ∷ []) ≡ (table S (run S done) i).0
  one-more done i = after_all-append S (start S) done (i ∷ [])

  here-tellable : (done : List Instr) (i : Instr) → IsInstr i → AreTellable (instr_events S (run S done) i (table S (run S done) i))
  here-tellable done i is_instr =
      let s = run S done in
      let after = table S s i in
      let then : run S (done ++ i ∷ []) ≡ after.0 = one-more done i in
      let works = setting.works in
      instr-tellable S setting.cpus s i after works
      (record {
        time = subst (λ (u : State). u.time ≤ 2 ^ 32) then (early (done ++ i ∷ []));
        pid = doing-pid S setting s after.0 after.1 (pids done) (subst (λ (u : State). (w : ℕ) → HasPid S w (running_at u w)) then (pids (done ++ i ∷ [])));
        cpu = asked_cpu-small S setting s (run-ready S valid done) i after.1 is_instr;
      })
      (λ w e is ends. (let there = end-there S s after.0.running after.0.time after.1 w e (table-does S s i) is ends in omega (arith, there, works)))
      (subst (λ (u : State). (w : ℕ) → IsReadyIf S (pending_at u w)) then (run-ready S valid (done ++ i ∷ [])))

  all-tellable : (done instrs : List Instr) → AllByRecursion IsInstr instrs → AreTellable (kernel_events_from S (run S done) instrs)
  all-tellable done [] are = tt
  all-tellable done (i ∷ is) are =
      let s = run S done in
      let after = table S s i in
      all-both IsTellable (instr_events S s i after) (kernel_events_from S after.0 is) (here-tellable done i are.0)
      (subst (λ (u : State). AreTellable (kernel_events_from S u is)) (one-more done i) (all-tellable (done ++ i ∷ []) is are.1))

  can-be-told : NeverGoesBack → IsScenario S → (instrs : List Instr) → AllByRecursion IsInstr instrs → length instrs ≤ MAX_HISTORY → CanBeTold S (kernel_events S instrs)
  unfolding NeverGoesBack
  can-be-told later contents instrs are few = record {
    contents = contents;
    cpus = setting.cpus;
    works = setting.works;
    tellable = all-tellable [] instrs are;
    few = (let count = run-few S setting.works (start S) instrs in omega (arith, count, few));
    rises = goes-rises 0 (kernel_events S instrs) (later S valid instrs);
  }

pub tells_each_run : NeverGoesBack
    → ((S : ScenarioContents) (events : List KernelEvent) → CanBeTold S events → file_read (dat_bytes S events) ≡ told_by_cpus S events) → TellsEachRun
unfolding TellsEachRun
tells_each_run later again S contents valid instrs are few = again S (kernel_events S instrs) (can-be-told S valid later contents instrs are few)
