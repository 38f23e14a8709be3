-- What is found on the way along a list of names. No public clause cites this module.
use Rattle.std.specs.Prelude.{ℕ, List, [], ◌∷◌, ◌++◌, Option, Some, None, Vec}
use Rattle.std.specs.declared.alloc.Global.{Global}
use Rattle.cmwq_types.specs.declared.instr.WorkId.{WorkId}

abbrev pub found_work : Option ℕ → List WorkId
found_work (Some w) = record { 0 = w } ∷ []
found_work None = []

-- with those that were found before
abbrev pub found_works : List WorkId → Option (List WorkId) → Option (List WorkId)
found_works before (Some works) = Some (before ++ works)
found_works before None = None

abbrev pub picked_items : Option (Vec WorkId Global) → Option (List WorkId)
picked_items (Some works) = Some works.items
picked_items None = None

abbrev pub name_items : Option (Vec ℕ Global) → Option (List ℕ)
name_items (Some name) = Some name.items
name_items None = None
