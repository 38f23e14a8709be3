use Rattle.std.proofs.Common.{◌≡◌, ◌+◌, [], ◌∷◌, ◌++◌, List, length, length-append, ap, arith, ◌∙◌}
use Rattle.cmwq_picture.specs.Column.{ColumnContents}
use Rattle.cmwq_picture.specs.Stretches.{spread}
use Rattle.cmwq_picture.proofs.StretchLemmas.{merged-after, spread-added}
use Rattle.cmwq_picture.proofs.columns.Columns.push.Goals as goal

pub invariant_of-self-2 : goal.invariant_of-self-2
invariant_of-self-2 c =
    let inside = c.self.inside in
    let old = inside.stretches.items in
    let pushed = c.in_ok-push_column.ensures.pushed in
    let counted = c.self.invariant.0 in
    let longer = length-append (spread old) (c.args.column ∷ []) in
    let all : length (spread c.push_column.new.stretches.items) ≡ length (spread old ++ c.args.column ∷ []) = ap (λ ss. length (spread ss)) pushed ∙ ap length (spread-added old c.args.column) in
    (omega (arith, counted, longer, all), merged-after old c.push_column.new.stretches.items c.args.column c.self.invariant.1 pushed)

pub returns-clause-pushed : goal.returns-clause-pushed
returns-clause-pushed c =
    let old = c.self.inside.stretches.items in
    ap spread c.in_ok-push_column.ensures.pushed ∙ spread-added old c.args.column ∙ ap (λ (cs : List ColumnContents). cs ++ c.args.column ∷ []) c.self.view_is
