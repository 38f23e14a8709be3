-- A name can be had back from its bytes.
use Rattle.std.specs.Prelude.{◌≡◌, ℕ, List, length, take}
use Rattle.std.proofs.Common.{sym, ap, ◌∙◌}
use Rattle.cmwq_types.specs.Name.{padded, IsStored}
use Rattle.cmwq_types.specs.declared.name.Name.TheInside.{Inside}

-- what keeps a name, from the name's bytes
abbrev pub stored : List ℕ → Inside
stored name = record { bytes = padded name; len = length name }

pub stored_again : (a : Inside) → IsStored a.bytes a.len → stored (take a.len a.bytes) ≡ a
stored_again a h =
    ap (λ (bytes : List ℕ). record { bytes = bytes; len = length (take a.len a.bytes) }) (sym h.rest)
    ∙ ap (λ (len : ℕ). record { bytes = a.bytes; len = len }) h.long
