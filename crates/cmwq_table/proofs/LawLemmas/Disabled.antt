-- A disabled work isn't pending, and no change makes it so.
use Rattle.std.proofs.Common.{◌≡◌, ℕ, zero, suc, ◌<◌, Bool, true, false, not, List, Option, Some, None, arith, refl, sym, ap, ◌∙◌, subst, inl, inr}
use Rattle.std.proofs.lemmas.Bool.{cases_eq, eqb-true}
use Rattle.std.proofs.lemmas.List.{get_or-set_other}
use Rattle.std.specs.Prelude.{slice_index_or, ◌==◌}
use Rattle.cmwq_types.specs.Contents.{ScenarioContents}
use Rattle.cmwq_types.specs.Scenario.{queue_of}
use Rattle.cmwq_table.specs.declared.state.Pending.{Pending}
use Rattle.cmwq_table.specs.declared.state.Running.{Running}
use Rattle.cmwq_table.specs.State.{State, depth_at, pending_at, running_at}
use Rattle.cmwq_table.specs.Moves.{fill, with_depth}
use Rattle.cmwq_table.proofs.LawLemmas.Changes.{Change, Follows, Kind}

-- no disabled work is pending
abbrev pub IsOff : State → Type 0
IsOff s = (w : ℕ) → 0 < depth_at s w → pending_at s w ≡ None

twice-not : (b : Bool) → not (not b) ≡ true → b ≡ true
twice-not true e = refl
twice-not false e = cc

pub enabled-zero : (depth : ℕ) → not (not (depth == 0)) ≡ true → depth ≡ 0
enabled-zero depth e = eqb-true depth 0 (twice-not (depth == 0) e)

pub disabled-deep : (depth : ℕ) → not (depth == 0) ≡ true → 0 < depth
disabled-deep zero e = cc
disabled-deep (suc depth) e = omega arith

not-deep : (depth : ℕ) → (0 < depth → ⊥) → depth ≡ 0
not-deep zero shallow = refl
not-deep (suc depth) shallow = absurd (shallow (omega arith))

-- a pending work isn't disabled
pub pending-enabled : (s : State) (w : ℕ) (p : Pending) → IsOff s → pending_at s w ≡ Some p → depth_at s w ≡ 0
pending-enabled s w p off is = not-deep (depth_at s w) (λ deep. cc (off w deep, is))

Kind-off : (S : ScenarioContents) (places wakes : Bool) (s : State) (w : ℕ) (left : Option ℕ) (a : Option Pending) (b : Option Running) (c : Option Pending) (d : Option Running) (n : ℕ)
    → 0 < depth_at s w → a ≡ None → Kind S places wakes s w left a b c d n → c ≡ None
Kind-off S places wakes s w left a b c d n deep idle (Kind.placed r at e fits with_run room enabled) = absurd (omega arith)
Kind-off S places wakes s w left a b c d n deep idle (Kind.put_off r at e fits with_run room enabled) = absurd (omega arith)
Kind-off S places wakes s w left a b c d n deep idle (Kind.timed r due cpu e in_range enabled) = absurd (omega arith)
Kind-off S places wakes s w left a b c d n deep idle (Kind.untimed born stamp r due cpu) = refl
Kind-off S places wakes s w left a b c d n deep idle (Kind.taken_inactive born stamp r at) = refl
Kind-off S places wakes s w left a b c d n deep idle (Kind.taken_listed born stamp r at) = refl
Kind-off S places wakes s w left a b c d n deep idle (Kind.taken_deferred born stamp r at) = refl
Kind-off S places wakes s w left a b c d n deep idle (Kind.activated born stamp r at room first) = cc
Kind-off S places wakes s w left a b c d n deep idle (Kind.started born stamp at worker may free) = refl
Kind-off S places wakes s w left a b c d n deep idle (Kind.deferred born stamp at r) = cc
Kind-off S places wakes s w left a b c d n deep idle (Kind.goes_on p r q same_born same_pool same_worker mode) = idle
Kind-off S places wakes s w left a b c d n deep idle (Kind.woken p r q wake same_born same_pool same_worker) = idle
Kind-off S places wakes s w left a b c d n deep idle (Kind.again born stamp at r run) = refl
Kind-off S places wakes s w left a b c d n deep idle (Kind.retired p r next e later) = idle

Change-off : (S : ScenarioContents) (places wakes : Bool) (left : Option ℕ) (s t : State) (w v : ℕ) → 0 < depth_at s v → pending_at s v ≡ None
    → Change S places wakes left s t w → pending_at t v ≡ None
Change-off S places wakes left s t w v deep idle change =
    elim (cases_eq v w) [
      | inl v_is ↦ (let before : pending_at s w ≡ None = ap (pending_at s) (sym v_is) ∙ idle in
          let deep_there : 0 < depth_at s w = subst (λ (k : ℕ). 0 < depth_at s k) v_is deep in
          ap (pending_at t) v_is ∙ (change.alters.pending_here ∙ Kind-off S places wakes s w left (pending_at s w) (running_at s w) change.p change.r t.next deep_there before change.kind))
      | inr v_ne ↦ change.alters.pending_else v v_ne ∙ idle
    ]

deep-still : (a b : List ℕ) (v : ℕ) → b ≡ a → 0 < slice_index_or a v 0 → 0 < slice_index_or b v 0
deep-still a b v same deep = subst (λ (depth : List ℕ). 0 < slice_index_or depth v 0) (sym same) deep

pub Follows-depth : (S : ScenarioContents) (places wakes : Bool) (s t : State) → Follows S places wakes s t → t.depth ≡ s.depth
Follows-depth S places wakes s t (Follows.stays pl wk a) = refl
Follows-depth S places wakes s t (Follows.changes pl wk a b c w change rest) = Follows-depth S places wakes b t rest ∙ change.alters.depth
Follows-depth S places wakes s t (Follows.leaves pl wk a b c w pool change filled rest) =
    let after = fill S (queue_of S w) pool b in
    Follows-depth S places wakes after t rest ∙ (Follows-depth S false wakes b after filled ∙ change.alters.depth)

-- a disabled work that isn't pending stays so
pub Follows-off : (S : ScenarioContents) (places wakes : Bool) (s t : State) (v : ℕ) → 0 < depth_at s v → pending_at s v ≡ None
    → Follows S places wakes s t → pending_at t v ≡ None
Follows-off S places wakes s t v deep idle (Follows.stays pl wk a) = idle
Follows-off S places wakes s t v deep idle (Follows.changes pl wk a b c w change rest) =
    Follows-off S places wakes b t v (deep-still s.depth b.depth v change.alters.depth deep) (Change-off S places wakes None s b w v deep idle change) rest
Follows-off S places wakes s t v deep idle (Follows.leaves pl wk a b c w pool change filled rest) =
    let after = fill S (queue_of S w) pool b in
    let deep_left : 0 < depth_at b v = deep-still s.depth b.depth v change.alters.depth deep in
    let deep_then : 0 < depth_at after v = deep-still b.depth after.depth v (Follows-depth S false wakes b after filled) deep_left in
    Follows-off S places wakes after t v deep_then (Follows-off S false wakes b after v deep_left (Change-off S places wakes (Some pool) s b w v deep idle change) filled) rest

pub Follows-all_off : (S : ScenarioContents) (places wakes : Bool) (s t : State) → Follows S places wakes s t → IsOff s → IsOff t
Follows-all_off S places wakes s t follows off v deep =
    let before : 0 < depth_at s v = deep-still t.depth s.depth v (sym (Follows-depth S places wakes s t follows)) deep in
    Follows-off S places wakes s t v before (off v before) follows

-- as a work gets another depth, the others keep theirs
pub Follows-off_but : (S : ScenarioContents) (places wakes : Bool) (s t : State) (w depth : ℕ) → Follows S places wakes (with_depth s w depth) t → IsOff s
    → pending_at t w ≡ None → IsOff t
Follows-off_but S places wakes s t w depth follows off idle v deep =
    let begun = with_depth s w depth in
    elim (cases_eq v w) [
      | inl v_is ↦ ap (pending_at t) v_is ∙ idle
      | inr v_ne ↦ (let kept : depth_at begun v ≡ depth_at s v = get_or-set_other s.depth w v depth 0 v_ne in
          let deep_begun : 0 < depth_at begun v = deep-still t.depth begun.depth v (sym (Follows-depth S places wakes begun t follows)) deep in
          Follows-off S places wakes begun t v deep_begun (off v (omega arith)) follows)
    ]
