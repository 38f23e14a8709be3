use Rattle.std.proofs.Common.{◌≡◌, ◌⊎◌, inl, inr, rules}
use Rattle.std.specs.List.{Contains}
use Rattle.std.proofs.lemmas.List.Elements.{All-contains, All-weaker}
use Rattle.cmwq_debug.specs.declared.checkpoints.Checkpoint.{Checkpoint}
use Rattle.cmwq_debug.proofs.CheckpointLemmas.{still-missing}
use Rattle.cmwq_debug.proofs.checkpoints.Checkpoints.enter_due.Goals as goal

pub add-requires-clause-missing : goal.add-requires-clause-missing
add-requires-clause-missing g c = still-missing c.args.position c.args.self.now.checkpoints c.make_room.new.self.checkpoints c.make_room.ensures.kept (search rules)

pub returns-then-is_due-clause-copies : goal.returns-then-is_due-clause-copies
returns-then-is_due-clause-copies g c =
    let was = c.args.self.now.checkpoints in
    let left = c.make_room.new.self.checkpoints in
    let is_copy : Checkpoint g.row.M.Denot → Type 0 =
    λ x. (x.at ≡ c.args.position) × (g.M.Reads.loaded x.machine ≡ g.M.Reads.loaded c.args.machine.now) × (g.M.Reads.state x.machine ≡ g.M.Reads.state c.args.machine.now) in
    let known : (x : Checkpoint g.row.M.Denot) → Contains left x ⊎ is_copy x → Contains was x ⊎ is_copy x =
    λ x it. elim it [ inl there ↦ inl (All-contains (Contains was) left x c.make_room.ensures.kept there) | inr copied ↦ inr copied ] in
    All-weaker (λ x. Contains left x ⊎ is_copy x) (λ x. Contains was x ⊎ is_copy x) known c.add.new.self.checkpoints c.add.ensures.copies
