-- Lines that are comments and nothing else.
use Rattle.std.specs.Prelude.{ℕ, Bool, ◌&&◌, List, length, nat_le, ◌==◌, slice_index}

-- it begins with `#`
abbrev pub begins_comment : List ℕ → Bool
begins_comment text = nat_le 1 (length text) && (slice_index text 0 == 35)
