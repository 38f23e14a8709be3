use Rattle.std.proofs.Common.{◌==◌}
use Rattle.cmwq_scan.proofs.CuttingLemmas.{first_byte-position}
use Rattle.cmwq_scan.proofs.cutting.place_of.Goals as goal

pub returns : goal.returns
returns c = first_byte-position (λ byte. byte == c.args.wanted) c.args.bytes.now c.memchr.result c.memchr.ensures
