-- What is known of the pools that no set of pools has.
use Rattle.std.proofs.Common.{◌≡◌, ℕ, ◌<◌, ◌≤◌, Bool, true, false, Option, Some, None, arith, refl, sym, ap, ◌∙◌}
use Rattle.std.specs.Prelude.{is_some}
use Rattle.cmwq_types.specs.Contents.{ScenarioContents}
use Rattle.cmwq_types.specs.First.{first_below, by_least}
use Rattle.cmwq_types.specs.Scenario.{pool_count}
use Rattle.cmwq_types.proofs.FirstLemmas.{by_least-order, first_below-none}
use Rattle.cmwq_table.specs.Moves.{next_move}
use Rattle.cmwq_table.specs.State.{State}
use Rattle.cmwq_types.specs.declared.moves.Move.{Move}
use Rattle.cmwq_parts.specs.FoundMoves.{if_found}
use Rattle.cmwq_parts.specs.PoolSets.{has_pool}
use Rattle.cmwq_parts.specs.declared.pool_moves.Found.{Found}
use Rattle.cmwq_parts.specs.declared.pool_set.PoolSet.{PoolSet}

-- each pool that there is and has a move is in the set
abbrev pub Covers : ScenarioContents → State → PoolSet → Type 0
Covers S s set = (pool : ℕ) → pool < pool_count S → is_some (next_move S s pool) ≡ true → has_pool set pool ≡ true

-- each pool of the set below 64 is there
abbrev pub IsWithin : ScenarioContents → PoolSet → Type 0
IsWithin S set = (pool : ℕ) → pool < 64 → has_pool set pool ≡ true → pool < pool_count S

-- and so are those of the set without one of them
pub within-without : (S : ScenarioContents) (set less : PoolSet) (gone : ℕ) → IsWithin S set → has_pool less gone ≡ false
    → ((other : ℕ) → other < 64 → (other ≡ gone → ⊥) → has_pool less other ≡ has_pool set other) → IsWithin S less
within-without S set less gone within out others = λ pool below member.
    within pool below (sym (others pool below (λ here. absurd (let left : has_pool less pool ≡ false = ap (has_pool less) here ∙ out in cc))) ∙ member)

left-out : (moves has : Bool) → (moves ≡ true → has ≡ true) → has ≡ false → moves ≡ false
left-out false has covers out = refl
left-out true has covers out = let member = covers refl in cc

-- a pool without a move needn't be in the set
pub covers-without : (S : ScenarioContents) (s : State) (set less : PoolSet) (gone : ℕ) → pool_count S ≤ 64 → Covers S s set → next_move S s gone ≡ None
    → ((other : ℕ) → other < 64 → (other ≡ gone → ⊥) → has_pool less other ≡ has_pool set other) → Covers S s less
covers-without S s set less gone few covers still others = λ pool below moves.
    others pool (omega (arith, few, below)) (λ here. absurd (let none : is_some (next_move S s pool) ≡ false = ap (λ p. is_some (next_move S s p)) here ∙ ap is_some still in cc))
    ∙ covers pool below moves

-- none of the pools below has a move, where none of them is in the set
pub none-moves : (S : ScenarioContents) (s : State) (set : PoolSet) (n : ℕ) → Covers S s set → n ≤ pool_count S
    → ((pool : ℕ) → pool < n → has_pool set pool ≡ false)
    → first_below (by_least (λ pool. pool)) (λ pool. is_some (next_move S s pool)) n ≡ None
none-moves S s set n covers few out =
    first_below-none (by_least (λ pool. pool)) (λ pool. is_some (next_move S s pool)) n (by_least-order (λ pool. pool))
    (λ pool below. left-out (is_some (next_move S s pool)) (has_pool set pool) (covers pool (omega arith)) (out pool below))

-- a move was found where there is one
pub found-moves : (found : Option Found) → is_some (if_found found) ≡ is_some found
found-moves (Some found) = refl
found-moves None = refl

pub still-if-none : (move : Option Move) → is_some move ≡ false → move ≡ None
still-if-none None is = refl
still-if-none (Some move) is = absurd (let not : true ≡ false = is in cc)
