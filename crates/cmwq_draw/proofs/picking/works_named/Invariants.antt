use Rattle.std.proofs.Common.{◌≡◌, [], drop}
use Rattle.cmwq_draw.specs.Picking.{names_from, works_named}
use Rattle.cmwq_draw.specs.WorksFound.{found_works}
use Rattle.cmwq_draw.proofs.picking.works_named.Given as goal

-- with those that are left the works are all
abbrev pub invariant-loop-byte : goal.invariant-loop-byte
invariant-loop-byte l =
    found_works l.works.items (works_named l.scenario (names_from l.name.items (drop l.byte-index l.names))) ≡ works_named l.scenario (names_from [] l.names)
