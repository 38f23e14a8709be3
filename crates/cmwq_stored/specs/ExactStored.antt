-- Equality of what is kept of states is exact.
use Rattle.std.proofs.Common.{◌≡◌, Bool, true}
use Rattle.std.specs.Bool.{Decides}
use Rattle.std.specs.Cmp.Lexicographic.{bytes_decides}
use Rattle.std.specs.Hash.{HashWrites, same_Alike}
use Rattle.cmwq_types.specs.ExactEquality.{told}
use Rattle.cmwq_stored.specs.Stored.{StoredContents, stored_eq}

pub stored_eq_is_exact : (x y : StoredContents) → Decides (stored_eq x y) (x ≡ y)
stored_eq_is_exact = bytes_decides

-- what an answer of the test says
pub stored_told : (r : Bool) (x y : StoredContents) → r ≡ stored_eq x y → Decides r (x ≡ y)
stored_told r x y = told r (stored_eq_is_exact x y)

-- equal ones are fed alike to a hasher
pub fed_alike : (F : StoredContents → HashWrites) (x y : StoredContents) → stored_eq x y ≡ true → F x ≡ F y
fed_alike F = (same_Alike F stored_eq_is_exact).fed
