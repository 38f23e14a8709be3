use Rattle.std.proofs.Common.{◌+◌, arith}
use Rattle.std.specs.Vec.{vec_capacity}
use Rattle.cmwq_core.proofs.LayoutLemmas.{laid_later}
use Rattle.cmwq_core.proofs.core_parts.CorePartsParts.skip_stamps.Goals as goal

pub invariant_of-self : goal.invariant_of-self
invariant_of-self c =
    let inside = c.self.inside in
    record {
      laid = laid_later inside.queued inside.running inside.workers inside.next (inside.next + c.from.result) inside.max.items inside.depth.items
          (vec_capacity inside.flushes) c.self.invariant.laid (omega arith);
      covered = c.self.invariant.covered;
    }
