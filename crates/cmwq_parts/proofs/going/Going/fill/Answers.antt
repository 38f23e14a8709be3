use Rattle.std.proofs.Common.{◌≡◌, ◌-◌, length, sym, ◌∙◌, ap}
use Rattle.cmwq_table.specs.Ready.{Loaded}
use Rattle.cmwq_table.specs.State.{State}
use Rattle.cmwq_table.specs.Moves.{fill_one, fill_times}
use Rattle.cmwq_table.proofs.CounterLemmas.{fill-takes}
use Rattle.cmwq_parts.proofs.FillLemmas.{fill_times-first, fill_times-stays}
use Rattle.cmwq_parts.proofs.going.Going.fill.Goals as goal

pub returns-then-fill_one-clause-filled : goal.returns-then-fill_one-clause-filled
returns-then-fill_one-clause-filled g c =
    let S = c.args.self.now.scenario in
    let first = fill_times-first S c.args.queue c.args.pool (length S.works) c.args.self.now.state (c.fill_one.ensures.works c.if-fill_one.true) in
    c.fill_more.ensures ∙ ap (λ (m : Loaded). record { scenario = m.scenario; state = fill_times m.scenario c.args.queue c.args.pool (length m.scenario.works - 1) m.state }) c.fill_one.ensures.filled
    ∙ ap (λ (s : State). record { scenario = S; state = s }) first

pub returns-else-fill_one-clause-filled : goal.returns-else-fill_one-clause-filled
returns-else-fill_one-clause-filled g c =
    let S = c.args.self.now.scenario in
    let s = c.args.self.now.state in
    let same = c.fill_one.ensures.unchanged c.if-fill_one.false in
    let still : fill_one S c.args.queue c.args.pool s ≡ s = ap (λ (m : Loaded). m.state) (sym c.fill_one.ensures.filled ∙ same) in
    same ∙ ap (λ (t : State). record { scenario = S; state = t }) (sym (fill_times-stays S c.args.queue c.args.pool (length S.works) s still))

pub returns-then-fill_one-clause-takes : goal.returns-then-fill_one-clause-takes
returns-then-fill_one-clause-takes g c =
    rw (returns-then-fill_one-clause-filled g c) (fill-takes c.args.self.now.scenario c.args.queue c.args.pool c.args.self.now.state c.work_count.ensures.setting)

pub returns-else-fill_one-clause-takes : goal.returns-else-fill_one-clause-takes
returns-else-fill_one-clause-takes g c =
    rw (returns-else-fill_one-clause-filled g c) (fill-takes c.args.self.now.scenario c.args.queue c.args.pool c.args.self.now.state c.work_count.ensures.setting)
