-- A list that is cut where it has ended.
use Rattle.std.proofs.Common.{◌≡◌, ◌≤◌, ℕ, List, length, take}
use Rattle.std.proofs.lemmas.List.{take_all}

pub short_front : (bytes : List ℕ) (most : ℕ) → length bytes ≤ most → take most bytes ≡ bytes
short_front bytes most short = take_all most bytes short
