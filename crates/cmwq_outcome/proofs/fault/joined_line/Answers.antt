use Rattle.std.proofs.Common.{[], ap, arith, length}
use Rattle.std.proofs.lemmas.List.Folds.{length-flat_map-take}
use Rattle.cmwq_outcome.proofs.fault.joined_line.Goals as goal

pub push_str-requires : goal.push_str-requires
push_str-requires c =
    let room = length-flat_map-take (λ text. text.now) c.args.texts.now c.loop-text.text-index (record { ref_ptr = (0, 0); now = [] }) (omega arith) in
    let so_far = ap length c.loop-text.invariant in
    (omega arith, omega (arith, room, so_far, c.requires))
