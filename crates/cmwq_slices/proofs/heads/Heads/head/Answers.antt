use Rattle.std.proofs.Common.{◌≡◌, ◌<◌, List, ℕ, Option, None, rules, ap, sym, subst, ◌∙◌}
use Rattle.std.specs.Prelude.{slice_index_or}
use Rattle.cmwq_types.specs.Scenario.{pool_count}
use Rattle.cmwq_table.specs.Counts.{first_runnable}
use Rattle.cmwq_table.specs.Ready.{Loaded}
use Rattle.cmwq_slices.proofs.HeadLemmas.{head-first}
use Rattle.cmwq_slices.proofs.heads.Heads.head.Goals as goal

pub returns : goal.returns
returns g c =
    let inside = c.self.inside in
    let S = g.R.Reads.loaded inside.machine.now in
    let s = g.R.Reads.state inside.machine.now in
    let pool = c.args.pool in
    let there : pool < pool_count S = subst (λ (m : Loaded). pool < pool_count m.scenario) (sym c.self.view_is) c.requires in
    let found : c.unwrap_or.result ≡ slice_index_or inside.first.items pool None = search rules in
    found ∙ ap (λ (heads : List (Option ℕ)). slice_index_or heads pool None) c.self.invariant
    ∙ head-first S s pool there
    ∙ ap (λ (m : Loaded). first_runnable m.scenario m.state pool) c.self.view_is
