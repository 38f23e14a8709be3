use Rattle.std.proofs.Common.{List, ap, sym, ◌∙◌}
use Rattle.std.specs.List.{slice_get}
use Rattle.cmwq_explore.specs.Searching.{Entry}
use Rattle.cmwq_explore.proofs.seen.Seen.mark.Goals as goal

pub returns-in-Some : goal.returns-in-Some
returns-in-Some c =
    (c.in-Some.field-0-0.now, sym (c.in-Some.ensures.entry ∙ ap (λ (l : List Entry). slice_get l c.args.place) c.self.view_is))
