use Rattle.std.proofs.lemmas.Str.{IsUtf8-from_ascii}
use Rattle.cmwq_interleaving.proofs.commenting.comments_of.Goals as goal

pub returns-clause-utf8 : goal.returns-clause-utf8
returns-clause-utf8 g c = IsUtf8-from_ascii c.loop-instr.text c.loop-instr.invariant.ascii
