use Rattle.std.proofs.Common.{rules, ◌≡◌, ℕ, List, Option, Some, length, set, ap, subst, sym, ◌∙◌}
use Rattle.cmwq_types.specs.Scenario.{flags_at}
use Rattle.cmwq_types.specs.declared.scenario.Flags.{Flags}
use Rattle.cmwq_phased.specs.Counted.{AreCounted}
use Rattle.cmwq_phased.specs.Indexes.{awake_class, awake_classes}
use Rattle.cmwq_phased.specs.Runs.{run_at}
use Rattle.cmwq_tally.specs.TallyContents.{changed}
use Rattle.cmwq_phased.proofs.ChangeLemmas.{counted_awake, counted_still}
use Rattle.cmwq_phased.proofs.CountLemmas.{class_counted, class_room}
use Rattle.cmwq_phased.proofs.counts.Counts.recount_in_place.Goals as goal

pub returns-then-is_awake : goal.returns-then-is_awake
returns-then-is_awake c =
    let alike : c.is_awake.result ≡ c.is_awake-2.result = search rules in
    record { counted = counted_still c.args.scenario.now c.args.runs.now c.args.self.now c.args.w c.args.was c.args.run c.requires.counted c.requires.runs.long c.requires.work c.requires.was c.requires.pool c.requires.worker (sym c.is_awake.ensures ∙ alike ∙ c.is_awake-2.ensures) }

pub change-requires-clause-counted : goal.change-requires-clause-counted
change-requires-clause-counted c =
    let S = c.args.scenario.now in
    let runs = c.args.runs.now in
    let flags = c.flags_in-intensive.ensures ∙ ap (flags_at S) c.queue_in.ensures in
    let is = sym (c.awake_class-before.ensures ∙ ap (awake_class c.flags_in-intensive.result.cpu_intensive) (sym c.requires.was) ∙ ap (λ (f : Flags). awake_class f.cpu_intensive (run_at runs c.args.w)) flags) in
    class_counted c.args.self.now.awake (awake_classes S runs) (length S.works) c.args.w c.awake_class-before.result c.requires.counted.awake c.requires.work is

pub change-requires-clause-room : goal.change-requires-clause-room
change-requires-clause-room c =
    let S = c.args.scenario.now in
    class_room c.args.self.now.awake (awake_classes S c.args.runs.now) (length S.works) c.awake_class-after.result c.requires.counted.awake c.requires.runs.setting.works

pub returns : goal.returns
returns c =
    let S = c.args.scenario.now in
    let runs = c.args.runs.now in
    let w = c.args.w in
    let t = c.args.self.now in
    let flags = c.flags_in-intensive.ensures ∙ ap (flags_at S) c.queue_in.ensures in
    let before = c.awake_class-before.ensures ∙ ap (awake_class c.flags_in-intensive.result.cpu_intensive) (sym c.requires.was) in
    let is =
    c.change.ensures.changed
    ∙ ap (λ (o : Option ℕ). changed t.awake o c.awake_class-after.result) before
    ∙ ap (changed t.awake (awake_class c.flags_in-intensive.result.cpu_intensive (run_at runs w))) c.awake_class-after.ensures
    ∙ ap (λ (f : Flags). changed t.awake (awake_class f.cpu_intensive (run_at runs w)) (awake_class f.cpu_intensive (Some c.args.run))) flags
    in
    record { counted = subst (λ (a : List ℕ). AreCounted S (set runs w (Some c.args.run)) (record t { awake = a })) (sym is) (counted_awake S runs t w c.args.was c.args.run c.requires.counted c.requires.runs.long c.requires.work c.requires.was c.requires.pool c.requires.worker) }
