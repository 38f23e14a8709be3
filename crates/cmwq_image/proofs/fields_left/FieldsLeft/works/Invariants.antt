use Rattle.std.proofs.Common.{◌≡◌, ◌+◌, ◌-◌, ◌*◌, ◌≤◌}
use Rattle.cmwq_image.proofs.LoopLemmas.{with_front}
use Rattle.cmwq_image.proofs.fields_left.FieldsLeft.works.Given as goal
use Rattle.cmwq_image.specs.ImageFault.{read_work, many}

abbrev pub invariant-loop : goal.invariant-loop
invariant-loop l = record {
  read : with_front l.works.items (many (read_work l.version) (l.count - l.counter) l.self) ≡ many (read_work l.version) l.count l.fn.self;
  ahead : l.self.at ≤ l.fn.self.at + 530 * l.counter;
}
