use Rattle.std.proofs.Common.{◌≡◌, rules, ap, ◌∙◌}
use Rattle.cmwq_idle.specs.Idle.{WorkersContents, last_idle_in}
use Rattle.cmwq_idle.specs.Links.{worker_at}
use Rattle.cmwq_idle.proofs.StackLemmas.{last_found}
use Rattle.cmwq_idle.proofs.idle_workers.IdleWorkers.last.Goals as goal

pub returns-clause-last : goal.returns-clause-last
returns-clause-last c =
    let inside = c.self.inside in
    let read : c.unwrap_or.result ≡ worker_at inside.last.items c.args.pool = search rules in
    c.target.ensures ∙ read ∙ last_found inside.idle.items inside.links.items inside.last.items inside.made.items inside.workers c.args.pool c.self.invariant.0 ∙ ap (λ (m : WorkersContents). last_idle_in m.idle m.workers c.args.pool) c.self.view_is
