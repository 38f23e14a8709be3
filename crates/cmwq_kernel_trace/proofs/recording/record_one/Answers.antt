use Rattle.std.proofs.Common.{◌≡◌, length, sym, ap, subst, ◌∙◌}
use Rattle.cmwq_types.specs.Contents.{ScenarioContents}
use Rattle.cmwq_table.specs.State.{State}
use Rattle.cmwq_events.specs.Followed.{LeadsTo, followed_on}
use Rattle.cmwq_kernel_trace.specs.Recording.{IsAt}
use Rattle.cmwq_kernel_trace.proofs.RecordingLemmas.{as_long, at_next, on-ok}
use Rattle.cmwq_kernel_trace.proofs.recording.record_one.Goals as goal

pub follow-requires : goal.follow-requires
follow-requires g c =
    as_long (g.M.Reads.loaded c.args.machine.now) (g.M.Reads.state c.args.machine.now) (g.M.Reads.state c.exec-reply.new.self) c.args.instr c.exec-reply.result c.exec-reply.ensures.exact
    ∙ c.requires.works ∙ ap (λ (S : ScenarioContents). length S.works) (sym c.exec-reply.ensures.scenario)

pub returns-clause-at : goal.returns-clause-at
returns-clause-at g c =
    let S = g.M.Reads.loaded c.args.machine.now in
    let s = g.M.Reads.state c.args.machine.now in
    let t = g.M.Reads.state c.exec-reply.new.self in
    let i = c.args.instr in
    let reply = c.exec-reply.result in
    let old = c.args.events.now in
    let new = c.follow.new.self in
    on-ok c.follow.result ((from : State) → LeadsTo old from → new ≡ followed_on (g.M.Reads.loaded c.exec-reply.new.self) from i (t, reply) old) (IsAt S new t)
    (λ step. at_next S s t i reply old new c.exec-reply.ensures.exact c.requires
    (subst (λ (L : ScenarioContents). new ≡ followed_on L s i (t, reply) old) c.exec-reply.ensures.scenario (step s c.requires.leads)))
    c.follow.ensures
