-- Where a debugger has checkpoints, which are copies of its machine along the list of instructions.
use Rattle.std.specs.Prelude.{◌≡◌, ◌⊎◌, ◌<◌, ◌≤◌, ◌*◌, ◌%◌, ◌==◌, ◌&&◌, ◌++◌, ℕ, suc, zero, ◌+◌, Bool, not, List, [], ◌∷◌, length, map, Option, Some, None, if◌then◌else◌, nat_le, nat_lt, true}
use Rattle.std.specs.List.{All, AllPairs, Contains, filter, last_or, list_any}
use Rattle.cmwq_types.specs.Contents.{ScenarioContents}
use Rattle.cmwq_table.specs.State.{State}
use Rattle.cmwq_types.specs.declared.limits.TheConstants.{MAX_HISTORY}
use Rattle.cmwq_debug.specs.declared.checkpoints.Checkpoint.{Checkpoint}
use Rattle.cmwq_debug.specs.declared.checkpoints.TheConstants.{FIRST_SPACING, MAX_CHECKPOINTS}

-- At which positions there is a checkpoint, rising, and of which number all are multiples.
pub record Spread : Type 0 where
  pub positions : List ℕ
  pub spacing : ℕ

abbrev pub no_checkpoints : Spread
no_checkpoints = record { positions = []; spacing = FIRST_SPACING }

-- a checkpoint may stand at the position
abbrev pub is_due : ℕ → ℕ → Bool
is_due spacing position = position % spacing == 0

-- those at odd multiples of the spacing are dropped, and the spacing is doubled
abbrev pub thinned : Spread → Spread
thinned s = record { positions = filter (is_due (2 * s.spacing)) s.positions; spacing = 2 * s.spacing }

-- one more may be made
abbrev pub has_room : Spread → Bool
has_room s = nat_lt (length s.positions) MAX_CHECKPOINTS

-- thinned until there is room for one more, at most so many times
unfoldable pub thinned_up_to : ℕ → Spread → Spread
thinned_up_to zero s = s
thinned_up_to (suc n) s = if has_room s then s else thinned_up_to n (thinned s)

-- with room for one more: after 21 times the spacing is greater than any position
abbrev pub with_room : Spread → Spread
with_room s = thinned_up_to 21 s

-- with one more at this position
abbrev pub with_position : Spread → ℕ → Spread
with_position s k = record s { positions = filter (λ p. nat_le p k) s.positions ++ k ∷ filter (λ p. nat_lt k p) s.positions }

-- with one more at this position, if one may stand there
abbrev pub with_due : Spread → ℕ → Spread
with_due s k = if is_due s.spacing k then with_position s k else s

-- the greatest position with a checkpoint that isn't above this one
abbrev pub nearest : List ℕ → ℕ → Option ℕ
nearest positions k = last_or None (filter (λ p. nat_le p k) positions)

abbrev pub or_start : Option ℕ → ℕ
or_start (Some p) = p
or_start None = 0

-- where a way back to the position begins: at the nearest checkpoint that isn't above it, else at the start
abbrev pub turn_for : Spread → ℕ → ℕ
turn_for s k = or_start (nearest s.positions k)

-- there is a checkpoint at the position
abbrev pub is_held : List ℕ → ℕ → Bool
is_held positions k = list_any (λ p. p == k) positions

-- one may stand there, and there is none
abbrev pub is_missing : Spread → ℕ → Bool
is_missing s k = is_due s.spacing k && not (is_held s.positions k)

-- once a machine has come to the position, going forward
abbrev pub entered : Spread → ℕ → Spread
entered s k = if is_missing s k then with_due (with_room s) k else s

-- the same where there was no memory for the checkpoint
abbrev pub left_out : Spread → ℕ → Spread
left_out s k = if is_missing s k then with_room s else s

abbrev pub Comes : Spread → ℕ → Spread → Type 0
Comes s k t = (t ≡ entered s k) ⊎ (t ≡ left_out s k)

-- a machine went forward from the position by so many instructions
abbrev pub Passes : Spread → ℕ → ℕ → Spread → Type 0
Passes s k zero t = t ≡ s
Passes s k (suc n) t = (u : Spread) × Passes s k n u × Comes u (k + suc n) t

-- the same where there was memory for each checkpoint
abbrev pub passed : Spread → ℕ → ℕ → Spread
passed s k zero = s
passed s k (suc n) = entered (passed s k n) (k + suc n)

-- Checkpoints, and the number of which their positions are multiples.
pub record Held (M : Type 0) : Type 0 where
  pub checkpoints : List (Checkpoint M)
  pub spacing : ℕ

abbrev pub held_of : {M : Type 0} → List (Checkpoint M) → ℕ → Held M
held_of checkpoints spacing = record { checkpoints = checkpoints; spacing = spacing }

abbrev pub positions_of : {M : Type 0} → List (Checkpoint M) → List ℕ
positions_of checkpoints = map (λ c. c.at) checkpoints

abbrev pub spread_of : {M : Type 0} → Held M → Spread
spread_of h = record { positions = positions_of h.checkpoints; spacing = h.spacing }

-- each position is below those behind it
abbrev pub AreRising : {M : Type 0} → List (Checkpoint M) → Type 0
AreRising checkpoints = AllPairs (λ c later. c.at < later.at) checkpoints

-- checkpoints between commands
pub record AreSpread {M : Type 0} (checkpoints : List (Checkpoint M)) (spacing : ℕ) : Type 0 where
  pub rising : AreRising checkpoints
  pub few : length checkpoints ≤ MAX_CHECKPOINTS
  pub due : All (λ c. is_due spacing c.at ≡ true) checkpoints
  pub some : All (λ c. 0 < c.at) checkpoints
  pub short : All (λ c. c.at ≤ MAX_HISTORY) checkpoints
  pub apart : 0 < spacing
  pub close : spacing ≤ MAX_HISTORY

-- each of these was held before, or is a copy that was made of the machine at the position
abbrev pub HoldsAtMost : {M : Type 0} → (M → ScenarioContents) → (M → State) → List (Checkpoint M) → M → ℕ → List (Checkpoint M) → Type 0
HoldsAtMost loaded state before machine position checkpoints =
    All (λ c. Contains before c ⊎ ((c.at ≡ position) × (loaded c.machine ≡ loaded machine) × (state c.machine ≡ state machine))) checkpoints
