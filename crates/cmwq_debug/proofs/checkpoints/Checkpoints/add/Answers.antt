use Rattle.std.proofs.Common.{◌≡◌, ◌⊎◌, ◌≤◌, ◌<◌, ◌++◌, ◌∷◌, List, ℕ, ap, drop, inl, inr, refl, rules, take, true}
use Rattle.std.proofs.lemmas.List.Elements.{All-contains_itself, All-weaker}
use Rattle.std.specs.List.{Contains}
use Rattle.cmwq_types.specs.declared.limits.TheConstants.{MAX_HISTORY}
use Rattle.cmwq_debug.specs.Checkpoints.{is_due}
use Rattle.cmwq_debug.specs.declared.checkpoints.Checkpoint.{Checkpoint}
use Rattle.cmwq_debug.specs.declared.checkpoints.TheConstants.{MAX_CHECKPOINTS}
use Rattle.cmwq_debug.proofs.CheckpointLemmas.{inserted-all, inserted-few, inserted-positions, inserted-rising}
use Rattle.cmwq_debug.proofs.checkpoints.Checkpoints.add.Goals as goal

pub invariant_of-self-2 : goal.invariant_of-self-2
invariant_of-self-2 g c =
    let items = c.args.self.now.checkpoints in
    let n = c.count_up_to-place.result in
    let k = c.args.position in
    let e : Checkpoint g.row.M.Denot = record { at = k; machine = c.in_ok-machine.machine } in
    let made : c.insert.new.self.items ≡ take n items ++ e ∷ drop n items = search rules in
    let spacing : c.self.inside.spacing ≡ c.args.self.now.spacing = search rules in
    let held : c.self.inside.held.items ≡ items = search rules in
    rw (made, spacing) record {
      rising = inserted-rising n items e k refl c.count_up_to-place.ensures.up_to c.count_up_to-place.ensures.above (rw (← held) c.self.invariant.rising) c.requires.missing;
      few = inserted-few n items e MAX_CHECKPOINTS c.requires.room;
      due = inserted-all n items e (λ x. is_due c.args.self.now.spacing x.at ≡ true) (rw (← held, ← spacing) c.self.invariant.due) c.requires.due;
      some = inserted-all n items e (λ x. 0 < x.at) (rw (← held) c.self.invariant.some) c.requires.some;
      short = inserted-all n items e (λ x. x.at ≤ MAX_HISTORY) (rw (← held) c.self.invariant.short) c.requires.short;
      apart = rw (← spacing) c.self.invariant.apart;
      close = rw (← spacing) c.self.invariant.close;
    }

pub returns-clause-ok : goal.returns-clause-ok
returns-clause-ok g c =
    let items = c.args.self.now.checkpoints in
    let n = c.count_up_to-place.result in
    let k = c.args.position in
    let e : Checkpoint g.row.M.Denot = record { at = k; machine = c.in_ok-machine.machine } in
    let made : c.insert.new.self.items ≡ take n items ++ e ∷ drop n items = search rules in
    let spacing : c.self.inside.spacing ≡ c.args.self.now.spacing = search rules in
    rw (made, spacing) (ap (λ (ps : List ℕ). record { positions = ps; spacing = c.args.self.now.spacing })
    (inserted-positions n items e k refl c.count_up_to-place.ensures.up_to c.count_up_to-place.ensures.above))

pub returns-clause-copies : goal.returns-clause-copies
returns-clause-copies g c =
    let items = c.args.self.now.checkpoints in
    let n = c.count_up_to-place.result in
    let k = c.args.position in
    let e : Checkpoint g.row.M.Denot = record { at = k; machine = c.in_ok-machine.machine } in
    let made : c.insert.new.self.items ≡ take n items ++ e ∷ drop n items = search rules in
    let known : Checkpoint g.row.M.Denot → Type 0 =
    λ x. Contains items x ⊎ ((x.at ≡ k) × (g.M.Reads.loaded x.machine ≡ g.M.Reads.loaded c.args.machine.now) × (g.M.Reads.state x.machine ≡ g.M.Reads.state c.args.machine.now)) in
    let one : known e = inr (refl, c.in_ok-machine.ensures.scenario, c.in_ok-machine.ensures.state) in
    rw made (inserted-all n items e known (All-weaker (Contains items) known (λ x there. inl there) items (All-contains_itself items)) one)
