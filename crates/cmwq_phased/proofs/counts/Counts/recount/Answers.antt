use Rattle.std.proofs.Common.{◌≡◌, ℕ, List, Option, length, set, ap, sym, ◌∙◌}
use Rattle.cmwq_types.specs.Scenario.{flags_at}
use Rattle.cmwq_types.specs.declared.scenario.Flags.{Flags}
use Rattle.cmwq_phased.specs.Counted.{AreCounted}
use Rattle.cmwq_phased.specs.Indexes.{awake_class, awake_classes, busy_class, busy_classes, rescued_class, rescued_classes, running_class, running_classes}
use Rattle.cmwq_phased.specs.Runs.{run_at}
use Rattle.cmwq_phased.specs.declared.run.Run.{Run}
use Rattle.cmwq_tally.specs.TallyContents.{changed}
use Rattle.cmwq_types.specs.Contents.{ScenarioContents}
use Rattle.cmwq_phased.proofs.ChangeLemmas.{counted_with}
use Rattle.cmwq_phased.proofs.CountLemmas.{class_counted, class_room}
use Rattle.cmwq_phased.proofs.counts.Counts.recount.Goals as goal

agree : (f : Option ℕ → Option ℕ → List ℕ) {a b c d : Option ℕ} → a ≡ b → c ≡ d → f a c ≡ f b d
agree f {b = b} {c = c} p q = ap (λ x. f x c) p ∙ ap (f b) q

counted_as : (S : ScenarioContents) (runs : List (Option Run)) {a b c d e f g h : List ℕ} → a ≡ b → c ≡ d → e ≡ f → g ≡ h
    → AreCounted S runs (record { running = b; awake = d; rescued = f; busy = h }) → AreCounted S runs (record { running = a; awake = c; rescued = e; busy = g })
counted_as S runs p q r s counted = rw (p, q, r, s) counted

pub change-requires-clause-counted : goal.change-requires-clause-counted
change-requires-clause-counted c =
    let S = c.args.scenario.now in
    let runs = c.args.runs.now in
    let is = sym (c.running_class.ensures ∙ ap (running_class c.queue_in-queue.result) (sym c.requires.was) ∙ ap (λ (q : ℕ). running_class q (run_at runs c.args.w)) c.queue_in-queue.ensures) in
    class_counted c.args.self.now.running (running_classes S runs) (length S.works) c.args.w c.running_class.result c.requires.counted.running c.requires.work is

pub change-requires-clause-room : goal.change-requires-clause-room
change-requires-clause-room c =
    let S = c.args.scenario.now in
    class_room c.args.self.now.running (running_classes S c.args.runs.now) (length S.works) c.running_class-2.result c.requires.counted.running c.requires.runs.setting.works

pub change-requires-2-clause-counted : goal.change-requires-2-clause-counted
change-requires-2-clause-counted c =
    let S = c.args.scenario.now in
    let runs = c.args.runs.now in
    let is = sym (c.awake_class.ensures ∙ ap (awake_class c.flags_in-flags.result.cpu_intensive) (sym c.requires.was) ∙ ap (λ (f : Flags). awake_class f.cpu_intensive (run_at runs c.args.w)) (c.flags_in-flags.ensures ∙ ap (flags_at S) c.queue_in-queue.ensures)) in
    class_counted c.args.self.now.awake (awake_classes S runs) (length S.works) c.args.w c.awake_class.result c.requires.counted.awake c.requires.work is

pub change-requires-2-clause-room : goal.change-requires-2-clause-room
change-requires-2-clause-room c =
    let S = c.args.scenario.now in
    class_room c.args.self.now.awake (awake_classes S c.args.runs.now) (length S.works) c.awake_class-2.result c.requires.counted.awake c.requires.runs.setting.works

pub change-requires-3-clause-counted : goal.change-requires-3-clause-counted
change-requires-3-clause-counted c =
    let S = c.args.scenario.now in
    let runs = c.args.runs.now in
    let is = sym (c.rescued_class.ensures ∙ ap (rescued_class c.queue_in-queue.result) (sym c.requires.was) ∙ ap (λ (q : ℕ). rescued_class q (run_at runs c.args.w)) c.queue_in-queue.ensures) in
    class_counted c.args.self.now.rescued (rescued_classes S runs) (length S.works) c.args.w c.rescued_class.result c.requires.counted.rescued c.requires.work is

pub change-requires-3-clause-room : goal.change-requires-3-clause-room
change-requires-3-clause-room c =
    let S = c.args.scenario.now in
    class_room c.args.self.now.rescued (rescued_classes S c.args.runs.now) (length S.works) c.rescued_class-2.result c.requires.counted.rescued c.requires.runs.setting.works

pub change-requires-4-clause-counted : goal.change-requires-4-clause-counted
change-requires-4-clause-counted c =
    let S = c.args.scenario.now in
    let runs = c.args.runs.now in
    let is = sym (c.busy_class.ensures ∙ ap (busy_class c.flags_in-flags.result.freezable) (sym c.requires.was) ∙ ap (λ (f : Flags). busy_class f.freezable (run_at runs c.args.w)) (c.flags_in-flags.ensures ∙ ap (flags_at S) c.queue_in-queue.ensures)) in
    class_counted c.args.self.now.busy (busy_classes S runs) (length S.works) c.args.w c.busy_class.result c.requires.counted.busy c.requires.work is

pub change-requires-4-clause-room : goal.change-requires-4-clause-room
change-requires-4-clause-room c =
    let S = c.args.scenario.now in
    class_room c.args.self.now.busy (busy_classes S c.args.runs.now) (length S.works) c.busy_class-2.result c.requires.counted.busy c.requires.runs.setting.works

pub returns : goal.returns
returns c =
    let S = c.args.scenario.now in
    let runs = c.args.runs.now in
    let w = c.args.w in
    let run = c.args.run in
    let t = c.args.self.now in
    let same_queue = c.queue_in-queue.ensures in
    let same_flags = c.flags_in-flags.ensures ∙ ap (flags_at S) same_queue in
    let running = c.change.ensures.changed ∙ agree (changed t.running) (c.running_class.ensures ∙ ap (running_class c.queue_in-queue.result) (sym c.requires.was)) c.running_class-2.ensures ∙ ap (λ (q : ℕ). changed t.running (running_class q (run_at runs w)) (running_class q run)) same_queue in
    let awake = c.change-2.ensures.changed ∙ agree (changed t.awake) (c.awake_class.ensures ∙ ap (awake_class c.flags_in-flags.result.cpu_intensive) (sym c.requires.was)) c.awake_class-2.ensures ∙ ap (λ (f : Flags). changed t.awake (awake_class f.cpu_intensive (run_at runs w)) (awake_class f.cpu_intensive run)) same_flags in
    let rescued = c.change-3.ensures.changed ∙ agree (changed t.rescued) (c.rescued_class.ensures ∙ ap (rescued_class c.queue_in-queue.result) (sym c.requires.was)) c.rescued_class-2.ensures ∙ ap (λ (q : ℕ). changed t.rescued (rescued_class q (run_at runs w)) (rescued_class q run)) same_queue in
    let busy = c.change-4.ensures.changed ∙ agree (changed t.busy) (c.busy_class.ensures ∙ ap (busy_class c.flags_in-flags.result.freezable) (sym c.requires.was)) c.busy_class-2.ensures ∙ ap (λ (f : Flags). changed t.busy (busy_class f.freezable (run_at runs w)) (busy_class f.freezable run)) same_flags in
    record { counted = counted_as S (set runs w run) running awake rescued busy (counted_with S runs t w run c.requires.counted c.requires.runs.long c.requires.work) }
