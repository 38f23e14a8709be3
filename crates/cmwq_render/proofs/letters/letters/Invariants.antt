use Rattle.std.proofs.Common.{◌≡◌, [], drop}
use Rattle.cmwq_render.specs.Letters.{letters_from}
use Rattle.cmwq_render.proofs.letters.letters.Given as goal

-- with those that are left the letters are all
abbrev pub invariant-loop-w : goal.invariant-loop-w
invariant-loop-w l = letters_from l.scenario.works l.given.items l.w (drop l.w l.scenario.works) ≡ letters_from l.scenario.works [] 0 l.scenario.works
