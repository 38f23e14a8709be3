use Rattle.std.proofs.Common.{◌≡◌, None, sym, ap, subst, ◌∙◌}
use Rattle.cmwq_table.specs.Moves.{next_move}
use Rattle.cmwq_table.specs.Ready.{Loaded}
use Rattle.cmwq_core.specs.Moving.{moving_state}
use Rattle.cmwq_core.proofs.core_parts.CorePartsParts.settle.Goals as goal
use Rattle.std.proofs.Common.{inl, inr}
use Rattle.std.proofs.lemmas.Bool.{cases_eq}

pub invariant_of-self : goal.invariant_of-self
invariant_of-self c =
    let inside = c.self.inside in
    let still = subst (λ (m : Loaded). next_move m.scenario m.state c.args.pool ≡ None) (sym c.self.view_is) c.requires.still in
    record {
      laid = c.self.invariant.laid;
      covered = λ pool small clear. elim (cases_eq pool c.args.pool) [
        | inl is ↦ ap (next_move inside.queued.scenario (moving_state inside.queued inside.running inside.workers inside.pressed)) is ∙ still
        | inr differs ↦ c.self.invariant.covered pool small (sym (c.without-self-inside.ensures pool small differs) ∙ clear)
      ];
    }
