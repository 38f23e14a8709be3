use Rattle.std.proofs.Common.{◌≡◌, ap, length, sym, ◌∙◌}
use Rattle.cmwq_types.specs.Contents.{ScenarioContents}
use Rattle.cmwq_table.specs.Table.{table}
use Rattle.cmwq_kernel_trace.proofs.TextLemmas.{fits-then, long-then}
use Rattle.cmwq_kernel_trace.proofs.text_trace.TextTellerTeller.issue.Goals as goal

pub follow-requires : goal.follow-requires
follow-requires g c =
    let s = g.M.Reads.state c.args.session.now.machine in
    let t = g.M.Reads.state c.exec-reply.new.self in
    let L = g.M.Reads.loaded c.exec-reply.new.self in
    let x = c.args.instr in
    let old = sym c.exec-reply.ensures.scenario in
    let exact : (t, c.exec-reply.result) ≡ table L s x = c.exec-reply.ensures.exact ∙ ap (λ (T : ScenarioContents). table T s x) old in
    long-then c.args.self.now L s t x c.exec-reply.result exact c.requires.fits.long ∙ c.scenario.ensures.works ∙ ap (λ (T : ScenarioContents). length T.works) old

pub returns-clause-fits : goal.returns-clause-fits
returns-clause-fits g c =
    let s = g.M.Reads.state c.args.session.now.machine in
    let t = g.M.Reads.state c.exec-reply.new.self in
    let L = g.M.Reads.loaded c.exec-reply.new.self in
    let x = c.args.instr in
    let old = sym c.exec-reply.ensures.scenario in
    let exact : (t, c.exec-reply.result) ≡ table L s x = c.exec-reply.ensures.exact ∙ ap (λ (T : ScenarioContents). table T s x) old in
    let many = long-then c.args.self.now L s t x c.exec-reply.result exact c.requires.fits.long ∙ c.scenario.ensures.works ∙ ap (λ (T : ScenarioContents). length T.works) old in
    fits-then c.args.self.now L s t x c.exec-reply.result exact c.follow.new.self (c.in_ok-follow.ensures s c.requires.fits.leads) (many ∙ sym c.scenario-2.ensures.works)
