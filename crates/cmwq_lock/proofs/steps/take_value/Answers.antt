use Rattle.std.proofs.Common.{◌∷◌, Some, sym, ap, ◌∙◌}
use Rattle.atomic_table.specs.Table.{rest}
use Rattle.cmwq_lock.proofs.steps.take_value.Goals as goal

pub exchange-requires : goal.exchange-requires
exchange-requires g c = let full = c.requires.full in (c.requires.place.same_table, (Some full.0, full.1 ∙ ap (λ cs. (0, Some full.0) ∷ rest cs) (sym full.1)))
