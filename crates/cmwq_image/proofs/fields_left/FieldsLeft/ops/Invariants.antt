use Rattle.std.proofs.Common.{◌≡◌, ◌+◌, ◌-◌, ◌*◌, ◌≤◌}
use Rattle.cmwq_image.proofs.LoopLemmas.{with_front}
use Rattle.cmwq_image.proofs.fields_left.FieldsLeft.ops.Given as goal
use Rattle.cmwq_image.specs.ImageFault.{read_op, many}

abbrev pub invariant-loop : goal.invariant-loop
invariant-loop l = record {
  read : with_front l.ops.items (many (read_op l.version) (l.count - l.counter) l.self) ≡ many (read_op l.version) l.count l.fn.self;
  ahead : l.self.at ≤ l.fn.self.at + 8 * l.counter;
}
