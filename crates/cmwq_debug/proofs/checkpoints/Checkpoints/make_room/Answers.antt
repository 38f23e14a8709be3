use Rattle.std.proofs.Common.{◌≡◌, ◌∙◌, ◌*◌, ◌<◌, ◌≤◌, ap, arith, length, refl, rules, sym}
use Rattle.std.proofs.lemmas.List.Elements.{All-contains, All-contains_itself, All-weaker}
use Rattle.std.specs.List.{Contains}
use Rattle.cmwq_types.specs.declared.limits.TheConstants.{MAX_HISTORY}
use Rattle.cmwq_debug.specs.Checkpoints.{spread_of}
use Rattle.cmwq_debug.specs.declared.checkpoints.TheConstants.{MAX_CHECKPOINTS}
use Rattle.cmwq_debug.proofs.CheckpointLemmas.{has-more-room, is-full, one-thinner, room-first, wide}
use Rattle.cmwq_debug.proofs.checkpoints.Checkpoints.make_room.Goals as goal

pub loop-self-init : goal.loop-self-init
loop-self-init g c = record {
  spread = (21, λ apart. omega (arith, apart), refl);
  kept = All-contains_itself c.args.self.now.checkpoints;
}

pub loop-self-preserved : goal.loop-self-preserved
loop-self-preserved g c =
    let now = c.loop-self.self in
    let inside = c.self.inside in
    let held : inside.held.items ≡ now.checkpoints = search rules in
    let spacing : inside.spacing ≡ now.spacing = search rules in
    let full : length now.checkpoints ≡ MAX_CHECKPOINTS = search rules in
    let apart : 0 < now.spacing = omega (arith, spacing, c.self.invariant.apart) in
    let fits : 2 * now.spacing ≤ MAX_HISTORY =
    omega (arith, spacing, wide inside.spacing inside.held.items c.self.invariant.apart c.self.invariant.rising c.self.invariant.due c.self.invariant.some c.self.invariant.short (ap length held ∙ full)) in
    let so_far = c.loop-self.invariant.spread in
    let next = one-thinner so_far.0 (spread_of now) (spread_of c.thin.new.self) (so_far.1 apart) fits (is-full now full) c.thin.ensures.thinned in
    record {
      spread = (next.0, λ _. next.1, next.2 ∙ so_far.2);
      kept = All-weaker (Contains now.checkpoints) (Contains c.args.self.now.checkpoints) (λ e there. All-contains (Contains c.args.self.now.checkpoints) now.checkpoints e c.loop-self.invariant.kept there)
          c.thin.new.self.checkpoints c.thin.ensures.kept;
    }

pub returns-clause-spread : goal.returns-clause-spread
returns-clause-spread g c =
    let few : length c.loop-self.self.checkpoints < MAX_CHECKPOINTS = search rules in
    let so_far = c.loop-self.invariant.spread in
    sym (room-first so_far.0 (spread_of c.loop-self.self) (has-more-room c.loop-self.self few)) ∙ so_far.2
