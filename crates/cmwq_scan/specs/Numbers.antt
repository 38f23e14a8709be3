-- The digits of a number.
use Rattle.std.specs.Prelude.{ℕ, Bool, not, ◌&&◌, ◌||◌, List, length, nat_le, ◌==◌, slice_index}

-- there are some, and no `0` stands before others
abbrev pub begins_well : List ℕ → Bool
begins_well digits = nat_le 1 (length digits) && (not (slice_index digits 0 == 48) || (length digits == 1))
