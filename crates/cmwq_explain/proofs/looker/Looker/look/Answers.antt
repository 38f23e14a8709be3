use Rattle.std.proofs.Common.{refl}
use Rattle.std.proofs.lemmas.Result.{err_from_is_err_and}
use Rattle.cmwq_play.proofs.TellerLemmas.{stopped_at_once}
use Rattle.cmwq_explain.specs.Looking.{told_here}
use Rattle.cmwq_explain.proofs.looker.Looker.look.Goals as goal

pub returns-in_err-said-clause-told : goal.returns-in_err-said-clause-told
returns-in_err-said-clause-told g c =
    let a = c.args.session.now in
    let p = err_from_is_err_and c.from_residual.result c.from_residual.ensures.1 in
    rw (p.1, p.2) (stopped_at_once g.M.Reads.loaded g.M.Reads.state g.W.Write.contents g.W.Sink.failed a a
    (told_here g.P.Sayer.says c.args.self.now a.scenario.now c.args.is_last (g.M.Reads.state a.machine)) _ c.requires.is_sound refl refl)
