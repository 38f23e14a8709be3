use Rattle.std.proofs.Common.{◌++◌, List, ℕ, ap, sym, ◌∙◌}
use Rattle.std.proofs.lemmas.List.Elements.{filter-append}
use Rattle.std.specs.List.{filter}
use Rattle.cmwq_render.specs.Letters.{alphabet, is_spare}
use Rattle.cmwq_render.proofs.letters.candidates.Goals as goal

pub returns : goal.returns
returns c =
    let p : ℕ → _ = is_spare c.args.works.now c.args.w in
    let name = c.args.name.now in
    c.in_ok-extend_from_slice.ensures.items ∙ ap (λ (front : List ℕ). front ++ alphabet) (
    c.in_ok-push_spare-2.ensures ∙ ap (λ (front : List ℕ). front ++ filter p alphabet) (
    c.in_ok-push_spare.ensures ∙ ap (λ (front : List ℕ). front ++ filter p name) c.new-found.ensures.items
    ) ∙ sym (filter-append p name alphabet)
    )
