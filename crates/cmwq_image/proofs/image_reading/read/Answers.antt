use Rattle.std.proofs.Common.{arith}
use Rattle.cmwq_image.proofs.ReadingLemmas.{is_found, is_meant, is_only}
use Rattle.cmwq_image.proofs.image_reading.read.Goals as goal

pub returns-clause-found : goal.returns-clause-found
returns-clause-found c = is_found c.args.bytes.now c.read_all.result (λ i. omega (arith, c.type_inv.bytes i)) c.read_all.ensures

pub returns-clause-only : goal.returns-clause-only
returns-clause-only c = is_only c.args.bytes.now c.read_all.result c.read_all.ensures

pub returns-clause-meaning : goal.returns-clause-meaning
returns-clause-meaning c = is_meant c.args.bytes.now c.read_all.result (λ i. omega (arith, c.type_inv.bytes i)) c.read_all.ensures
