use Rattle.std.proofs.Common.{◌≡◌, ◌∙◌, List, Option, Some, ap, refl, sym, subst}
use Rattle.std.specs.Option.{option_or}
use Rattle.std.specs.Prelude.{slice_get}
use Rattle.cmwq_flush_waits.specs.Holders.{HasHolders}
use Rattle.cmwq_flush_waits.specs.Waits.{blamed_for, with_instances}
use Rattle.cmwq_flush_waits.specs.declared.reaching.Full.{Full}
use Rattle.cmwq_reasons.specs.declared.reason.Instance.{Instance}
use Rattle.cmwq_flush_waits.proofs.ReachLemmas.{blamed-at, held-after, held-stand, read-at}
use Rattle.cmwq_flush_waits.proofs.reaching.add_blamed.Goals as goal

pub returns-then-is_held-clause-blamed : goal.returns-then-is_held-clause-blamed
returns-then-is_held-clause-blamed g c =
    let S = g.R.Reads.loaded c.args.machine.now in
    let s = g.R.Reads.state c.args.machine.now in
    let all = c.args.all.now.items in
    let ys = blamed_for S s c.work_of-work.result.0 c.reason_of-reason.result in
    let at : slice_get all c.args.place ≡ Some c.in-Some.instance =
    ap (λ (xs : List Instance). slice_get xs c.args.place) (sym c.deref.ensures.value)
    ∙ read-at c.get.result c.deref.result.now c.args.place c.in-Some.instance c.get.ensures.lookup.3 (sym c.copied.ensures ∙ c.in-Some.is) in
    sym (held-stand S s c.full_queue-full.result c.args.held all ys c.requires c.full_queue-full.ensures (c.if-is_held.ensures refl))
    ∙ ap (with_instances all) (blamed-at S s all c.args.place c.in-Some.instance _ _ at c.work_of-work.ensures c.reason_of-reason.ensures)

pub returns-clause-blamed : goal.returns-clause-blamed
returns-clause-blamed g c =
    let S = g.R.Reads.loaded c.args.machine.now in
    let s = g.R.Reads.state c.args.machine.now in
    let all = c.args.all.now.items in
    let at : slice_get all c.args.place ≡ Some c.in-Some.instance =
    ap (λ (xs : List Instance). slice_get xs c.args.place) (sym c.deref.ensures.value)
    ∙ read-at c.get.result c.deref.result.now c.args.place c.in-Some.instance c.get.ensures.lookup.3 (sym c.copied.ensures ∙ c.in-Some.is) in
    c.in_ok-add_all.ensures
    ∙ ap (with_instances all)
    (c.deref-2.ensures.value ∙ c.in_ok-blamed.ensures ∙ blamed-at S s all c.args.place c.in-Some.instance _ _ at c.work_of-work.ensures c.reason_of-reason.ensures)

pub returns-clause-held : goal.returns-clause-held
returns-clause-held g c =
    let S = g.R.Reads.loaded c.args.machine.now in
    let s = g.R.Reads.state c.args.machine.now in
    let all = c.args.all.now.items in
    let ys = blamed_for S s c.work_of-work.result.0 c.reason_of-reason.result in
    let added : c.add_all.new.all.items ≡ with_instances all ys =
    c.in_ok-add_all.ensures ∙ ap (with_instances all) (c.deref-2.ensures.value ∙ c.in_ok-blamed.ensures) in
    subst (λ (held : Option Full). HasHolders S s held c.add_all.new.all.items) (sym c.or.ensures)
    (subst (λ (xs : List Instance). HasHolders S s (option_or c.full_queue-full.result c.args.held) xs) (sym added)
    (held-after S s c.full_queue-full.result c.args.held all ys c.requires c.full_queue-full.ensures))
