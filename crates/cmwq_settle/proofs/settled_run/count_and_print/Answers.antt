use Rattle.std.proofs.Common.{◌≡◌, Err, rules, subst, sym}
use Rattle.std.specs.Prelude.{OnOk, slice_index_or}
use Rattle.cmwq_types.specs.Contents.{ActorContents, ScenarioContents}
use Rattle.cmwq_play.specs.Commands.{Writes}
use Rattle.cmwq_play.specs.Runs.{IsRunOf}
use Rattle.cmwq_streams.specs.declared.error.PlayError.TheVariants.{NeverQuiet}
use Rattle.cmwq_settle.specs.Counting.{HasCounted, IsCounted}
use Rattle.cmwq_settle.specs.Settling.{IsEndlessOutput, IsFollowedOutput, IsSettledOutput, Wrote}
use Rattle.cmwq_play.proofs.TextLemmas.{first-is}
use Rattle.cmwq_settle.proofs.settled_run.count_and_print.Goals as goal

pub returns-clause-quiet : goal.returns-clause-quiet
returns-clause-quiet g c =
    let same : c.deref.result.now ≡ c.args.scenario = search rules in
    subst (λ (S : ScenarioContents). OnOk c.print_followed.result (Wrote (IsSettledOutput S) (g.W.Write.contents c.args.writer.now) (g.W.Write.contents c.print_followed.new.writer))) same
    c.print_followed.ensures.quiet

pub returns-clause-never_quiet : goal.returns-clause-never_quiet
returns-clause-never_quiet g c =
    let same : c.deref.result.now ≡ c.args.scenario = search rules in
    subst (λ (S : ScenarioContents). c.print_followed.result ≡ Err NeverQuiet → Wrote (IsEndlessOutput S) (g.W.Write.contents c.args.writer.now) (g.W.Write.contents c.print_followed.new.writer)) same
    c.print_followed.ensures.never_quiet

pub returns-clause-writes : goal.returns-clause-writes
returns-clause-writes g c =
    let same : c.deref.result.now ≡ c.args.scenario = search rules in
    subst (λ (S : ScenarioContents). Writes (IsFollowedOutput S) (g.W.Write.contents c.args.writer.now) (g.W.Write.contents c.print_followed.new.writer) (g.W.Sink.failed c.print_followed.new.writer) c.print_followed.result) same
    c.print_followed.ensures.writes

pub print_followed-requires-clause-runs : goal.print_followed-requires-clause-runs
print_followed-requires-clause-runs g c =
    let S = c.args.scenario in
    let held : c.in_ok-scenario.scenario.value ≡ S = search rules in
    let counted = subst (λ (T : ScenarioContents). HasCounted T c.in_ok-nexts.nexts) held c.in_ok-nexts.ensures in
    let actor = c.index.result.now in
    let at : actor ≡ slice_index_or S.actors 0 actor = search rules in
    let same : c.deref.result.now ≡ S = search rules in
    subst (λ (T : ScenarioContents). IsRunOf T actor) (sym same)
    (subst (λ (a : ActorContents). IsRunOf S a) (sym (first-is S.actors actor counted.0 at counted.1.alone)) counted.1)

pub print_followed-requires-clause-counted : goal.print_followed-requires-clause-counted
print_followed-requires-clause-counted g c =
    let S = c.args.scenario in
    let held : c.in_ok-scenario.scenario.value ≡ S = search rules in
    let counted = subst (λ (T : ScenarioContents). HasCounted T c.in_ok-nexts.nexts) held c.in_ok-nexts.ensures in
    let actor = c.index.result.now in
    let at : actor ≡ slice_index_or S.actors 0 actor = search rules in
    let same : c.deref.result.now ≡ S = search rules in
    subst (λ (T : ScenarioContents). IsCounted T actor c.in_ok-nexts.nexts) (sym same)
    (subst (λ (a : ActorContents). IsCounted S a c.in_ok-nexts.nexts) (sym (first-is S.actors actor counted.0 at counted.1.alone)) counted.2)
