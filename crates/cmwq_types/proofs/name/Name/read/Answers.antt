use Rattle.std.proofs.Common.{◌≡◌, ℕ, List, ◌++◌, length, drop, replicate, sym, subst, true}
use Rattle.cmwq_types.specs.Name.{is_name, IsStored}
use Rattle.cmwq_types.proofs.NameLemmas.{IsStored-padded}
use Rattle.cmwq_types.proofs.name.Name.read.Goals as goal

pub invariant_of-result : goal.invariant_of-result
invariant_of-result c =
    let bytes = c.args.bytes.now in
    let named : is_name bytes ≡ true = cc in
    subst (λ (copied : List ℕ). IsStored (copied ++ drop (length bytes) (replicate 15 0)) (length bytes))
    (sym c.copy_from_slice.ensures.after) (IsStored-padded bytes named)
