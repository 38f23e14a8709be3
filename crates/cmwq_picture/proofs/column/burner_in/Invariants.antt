use Rattle.std.proofs.Common.{◌≡◌, drop}
use Rattle.cmwq_picture.specs.Column.{burner_in}
use Rattle.cmwq_picture.proofs.column.burner_in.Given as goal

-- none was found so far: what is left has the first
abbrev pub invariant-loop-burning : goal.invariant-loop-burning
invariant-loop-burning l = burner_in l.scenario l.title (drop l.burning-index l.burners) ≡ burner_in l.scenario l.title l.burners
