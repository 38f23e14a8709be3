use Rattle.std.proofs.Common.{◌≡◌, ℕ, ◌*◌, true, List, length, Option, sym, ap, ◌∙◌}
use Rattle.std.proofs.lemmas.List.{with_items_is}
use Rattle.std.specs.List.{list_all}
use Rattle.std.specs.Prelude.{is_none}
use Rattle.std.specs.Vec.{with_items}
use Rattle.cmwq_types.specs.Contents.{ScenarioContents}
use Rattle.cmwq_table.specs.Counts.{burns}
use Rattle.cmwq_table.specs.Moves.{burned}
use Rattle.cmwq_table.specs.Ready.{Loaded, holding}
use Rattle.cmwq_table.specs.declared.state.Running.{Running}
use Rattle.cmwq_plain.specs.BurningHeads.{burns_beside}
use Rattle.cmwq_plain.proofs.RestLemmas.{burned-none}
use Rattle.cmwq_plain.proofs.TickLemmas.{burned-by_heads, length-burned}
use Rattle.cmwq_plain.proofs.records.Records.burn_all.Goals as goal

abbrev with_running : Loaded → List (Option Running) → Loaded
with_running m rs = holding m.scenario (record m.state { running = rs })

pub returns-then-are_none : goal.returns-then-are_none
returns-then-are_none c =
    let old = c.args.self.now in
    let running : c.deref.result.now ≡ old.state.running = c.deref.ensures.value ∙ ap (λ (m : Loaded). m.state.running) c.self.view_is in
    let all : list_all is_none old.state.running ≡ true =
    ap (λ (rs : List (Option Running)). list_all is_none rs) (sym running) ∙ sym c.are_none.ensures ∙ c.if-are_none.true
    in
    ap (with_running old) (sym (burned-none (burns old.scenario old.state) 0 old.state.running all))

pub returns : goal.returns
returns c =
    let old = c.args.self.now in
    let scenario : c.behind-self.inside.cpus ≡ old.scenario.cpus =
    ap (λ (S : ScenarioContents). S.cpus) (c.behind-self.view_is ∙ c.deref-2.ensures ∙ ap (λ (m : Loaded). m.scenario) c.self.view_is)
    in
    let running : c.deref_mut.result.now ≡ old.state.running = c.deref_mut.ensures.value ∙ ap (λ (m : Loaded). m.state.running) c.self.view_is in
    let burned : c.burn.new.running ≡ burned (burns old.scenario old.state) 0 old.state.running =
    c.burn.ensures
    ∙ ap (λ (cpus : ℕ). burned (burns_beside c.heads-heads.result (2 * cpus)) 0 c.deref_mut.result.now) scenario
    ∙ ap (burned (burns_beside c.heads-heads.result (2 * old.scenario.cpus)) 0) running
    ∙ burned-by_heads old.scenario old.state c.heads-heads.result c.heads-heads.ensures
    in
    let long : length c.burn.new.running ≡ c.self.inside.running.len =
    ap length c.burn.ensures
    ∙ length-burned (burns_beside c.heads-heads.result (2 * c.behind-self.inside.cpus)) 0 c.deref_mut.result.now
    ∙ c.deref_mut.ensures.len
    in
    let items = with_items c.self.inside.running c.burn.new.running in
    ap (λ (m : Loaded). with_running m items.items) c.self.view_is
    ∙ ap (with_running old) (with_items_is c.self.inside.running c.burn.new.running long ∙ burned)
