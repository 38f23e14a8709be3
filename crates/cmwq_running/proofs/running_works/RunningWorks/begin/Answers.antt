use Rattle.std.proofs.Common.{◌<◌, ℕ, IfSome, Some, sym, subst}
use Rattle.cmwq_table.specs.State.{running_at}
use Rattle.cmwq_phased.specs.Runs.{HasOwnStamp}
use Rattle.cmwq_phased.specs.declared.run.Run.{Run}
use Rattle.cmwq_running.specs.Heads.{ComesLast}
use Rattle.cmwq_running.specs.RunningContents.{RunningContents, first_run, state_of}
use Rattle.cmwq_running.proofs.StepLemmas.{newest_last, newest_own}
use Rattle.cmwq_running.proofs.running_works.RunningWorks.begin.Goals as goal

pub begin-requires-clause-own_stamp : goal.begin-requires-clause-own_stamp
begin-requires-clause-own_stamp c =
    subst (λ (run : Run). HasOwnStamp c.self.inside.works.runs c.args.w (Some run)) (sym c.first_run.ensures)
    (newest_own c.self.inside.time c.self.inside.works.runs c.args.w (first_run c.args.born c.args.pool c.args.worker c.args.stamp)
    (subst (λ (m : RunningContents). (v : ℕ) → IfSome (running_at (state_of m) v) (λ q. q.stamp < c.args.stamp)) (sym c.self.view_is) c.requires.newest))

pub begin-requires-clause-last : goal.begin-requires-clause-last
begin-requires-clause-last c =
    subst (λ (run : Run). ComesLast c.self.inside.works.runs c.args.w (Some run)) (sym c.first_run.ensures)
    (newest_last c.self.inside.time c.self.inside.works.runs c.args.w (first_run c.args.born c.args.pool c.args.worker c.args.stamp)
    (subst (λ (m : RunningContents). (v : ℕ) → IfSome (running_at (state_of m) v) (λ q. q.stamp < c.args.stamp)) (sym c.self.view_is) c.requires.newest))
