-- What a search for rings comes to on its way.
use Rattle.std.specs.Prelude.{◌≡◌, List, ◌∷◌, true, false, ◌⊎◌}
use Rattle.std.specs.Prelude.{ℕ, ◌<◌, ◌≢◌}
use Rattle.std.specs.List.{slice_index_or}
use Rattle.cmwq_exploration.specs.declared.exploration.Precedence.{Precedence}
use Rattle.cmwq_rings.specs.Rings.{IsRing, Name, Pair, is_before}

-- no ring begins with this actor
abbrev pub HasNoRingThrough : List Pair → Name → Type 0
HasNoRingThrough before actor = (others : List Name) → IsRing before (actor ∷ others) → ⊥

-- it is before nobody
abbrev pub IsLast : List Pair → Name → Type 0
IsLast before name = (second : Name) → is_before before name second ≡ false

-- the pair of these two was one of the old ones, and the new ones are the others
pub record IsTaken (old new : List Pair) (first second : Name) : Type 0 where
  pub there : is_before old first second ≡ true
  pub others : (one other : Name) → is_before old one other ≡ true → (is_before new one other ≡ true) ⊎ ((one ≡ first) × (other ≡ second))
  pub part : (one other : Name) → is_before new one other ≡ true → is_before old one other ≡ true

-- the actor is the first of the pair there, and of none below
abbrev pub BeginsAt : Name → List Precedence → ℕ → Type 0
BeginsAt actor pairs place = (d : Precedence) → (slice_index_or pairs place d).first.now ≡ actor

abbrev pub BeginsNone : Name → List Precedence → ℕ → Type 0
BeginsNone actor pairs end = (place : ℕ) (d : Precedence) → place < end → (slice_index_or pairs place d).first.now ≢ actor
