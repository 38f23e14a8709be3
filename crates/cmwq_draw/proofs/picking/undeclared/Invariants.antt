use Rattle.std.proofs.Common.{◌≡◌, [], drop}
use Rattle.cmwq_draw.specs.Picking.{names_from, undeclared}
use Rattle.cmwq_draw.proofs.picking.undeclared.Given as goal

-- none of the names behind is the first
abbrev pub invariant-loop-letter : goal.invariant-loop-letter
invariant-loop-letter l =
    undeclared l.scenario (names_from l.name.items (drop l.letter-index l.names)) ≡ undeclared l.scenario (names_from [] l.names)
