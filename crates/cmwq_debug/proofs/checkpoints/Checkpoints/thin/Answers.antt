use Rattle.std.proofs.Common.{◌≡◌, ◌∙◌, ◌*◌, ◌≤◌, ◌<◌, Bool, List, ℕ, ap, arith, rules}
use Rattle.std.proofs.lemmas.Fn.{filter_same}
use Rattle.std.proofs.lemmas.List.Elements.{All-contains_itself, All-filter, filter_passes}
use Rattle.std.proofs.lemmas.List.Kept.{AllPairs-filter}
use Rattle.std.specs.List.{Contains, filter}
use Rattle.cmwq_types.specs.declared.limits.TheConstants.{MAX_HISTORY}
use Rattle.cmwq_debug.specs.Checkpoints.{is_due, positions_of}
use Rattle.cmwq_debug.specs.declared.checkpoints.Checkpoint.{Checkpoint}
use Rattle.cmwq_debug.proofs.CheckpointLemmas.{positions-filter, wide}
use Rattle.cmwq_debug.proofs.checkpoints.Checkpoints.thin.Goals as goal

pub invariant_of-self : goal.invariant_of-self
invariant_of-self g c =
    let items = c.self.inside.held.items in
    let spacing = c.self.inside.spacing in
    let test : Checkpoint g.row.M.Denot → Bool = λ e. is_due (2 * spacing) e.at in
    let left : c.retain.new.self.items ≡ filter test items = filter_same _ test _ (λ x b f' k. search rules) _ _ c.retain.ensures.filtered in
    let full = wide spacing items c.self.invariant.apart c.self.invariant.rising c.self.invariant.due c.self.invariant.some c.self.invariant.short (search rules) in
    record {
      rising = rw left (AllPairs-filter (λ (e later : Checkpoint g.row.M.Denot). e.at < later.at) test items c.self.invariant.rising);
      few = omega (arith, c.retain.ensures.bound, c.self.invariant.few);
      due = rw left (filter_passes test items);
      some = rw left (All-filter test (λ (e : Checkpoint g.row.M.Denot). 0 < e.at) items c.self.invariant.some);
      short = rw left (All-filter test (λ (e : Checkpoint g.row.M.Denot). e.at ≤ MAX_HISTORY) items c.self.invariant.short);
      apart = omega (arith, c.self.invariant.apart);
      close = full;
    }

pub returns-clause-thinned : goal.returns-clause-thinned
returns-clause-thinned g c =
    let items = c.self.inside.held.items in
    let spacing = c.self.inside.spacing in
    let left : c.retain.new.self.items ≡ filter (λ (e : Checkpoint g.row.M.Denot). is_due (2 * spacing) e.at) items =
    filter_same _ (λ e. is_due (2 * spacing) e.at) _ (λ x b f' k. search rules) _ _ c.retain.ensures.filtered in
    let held : items ≡ c.args.self.now.checkpoints = search rules in
    let apart : spacing ≡ c.args.self.now.spacing = search rules in
    rw (← held, ← apart) (ap (λ (ps : List ℕ). record { positions = ps; spacing = 2 * spacing }) (ap positions_of left ∙ positions-filter (is_due (2 * spacing)) items))

pub returns-clause-kept : goal.returns-clause-kept
returns-clause-kept g c =
    let items = c.self.inside.held.items in
    let spacing = c.self.inside.spacing in
    let test : Checkpoint g.row.M.Denot → Bool = λ e. is_due (2 * spacing) e.at in
    let left : c.retain.new.self.items ≡ filter test items = filter_same _ test _ (λ x b f' k. search rules) _ _ c.retain.ensures.filtered in
    let held : items ≡ c.args.self.now.checkpoints = search rules in
    rw (left, ← held) (All-filter test (Contains items) items (All-contains_itself items))
