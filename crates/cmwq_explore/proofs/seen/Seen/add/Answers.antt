use Rattle.std.proofs.Common.{ap, sym, ◌++◌, ◌∷◌, [], ◌∙◌}
use Rattle.cmwq_explore.proofs.SeenLemmas.{added_last}
use Rattle.cmwq_explore.specs.Searching.{knows}
use Rattle.cmwq_stored.specs.Stored.{StoredContents}
use Rattle.cmwq_explore.proofs.seen.Seen.add.Goals as goal

pub returns-clause-added : goal.returns-clause-added
returns-clause-added c =
    added_last c.self.inside.states c.args.self.now c.insert.new.self.entries c.in_ok-kept.kept c.args.mark (sym c.self.view_is)
    (ap (knows c.args.self.now) c.in_ok-kept.ensures ∙ c.requires.new) c.in_ok-insert.ensures.entries
    ∙ ap (λ (k : StoredContents). c.args.self.now ++ (k, c.args.mark) ∷ []) c.in_ok-kept.ensures
