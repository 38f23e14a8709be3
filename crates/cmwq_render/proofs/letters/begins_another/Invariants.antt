use Rattle.std.proofs.Common.{◌≡◌, drop}
use Rattle.cmwq_render.specs.Letters.{begins_another}
use Rattle.cmwq_render.proofs.letters.begins_another.Given as goal

abbrev pub invariant-loop-at : goal.invariant-loop-at
invariant-loop-at l = begins_another l.w l.letter l.at (drop l.at l.works) ≡ begins_another l.w l.letter 0 l.works
