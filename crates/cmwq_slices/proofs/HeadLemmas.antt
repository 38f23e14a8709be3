-- The heads that one go over the works finds are the first runnable works.
use Rattle.std.proofs.Common.{◌≡◌, ℕ, zero, suc, ◌<◌, Bool, true, false, cond, ◌&&◌, List, length, Option, Some, None, refl, sym, ap, ◌∙◌, subst}
use Rattle.std.proofs.lemmas.Bool.{eqb-true, eqb-false}
use Rattle.std.proofs.lemmas.List.{get_or-replicate, get_or-set_other, length-set, length-replicate}
use Rattle.std.proofs.lemmas.Grind.{get_or-set_at}
use Rattle.std.specs.Prelude.{slice_index_or, slice_set, ◌==◌}
use Rattle.cmwq_types.specs.Contents.{ScenarioContents}
use Rattle.cmwq_types.specs.First.{first_below, first_with}
use Rattle.cmwq_types.specs.Scenario.{pool_count}
use Rattle.cmwq_table.specs.Counts.{first_runnable, is_runnable, running_before, runs}
use Rattle.cmwq_table.specs.State.{State, running_at}
use Rattle.cmwq_table.specs.declared.state.Running.{Running}
use Rattle.cmwq_slices.specs.Heads.{heads_below, with_head}

abbrev runs_there : ℕ → Option Running → Bool
runs_there pool r = runs (λ r. (r.pool == pool) && is_runnable r.mode) r

module _ (s : State) (w : ℕ) (heads : List (Option ℕ)) where
  with-length : (r : Option Running) → length (with_head s w r heads) ≡ length heads
  with-length None = refl
  with-length (Some r) = chosen (is_runnable r.mode) where
    chosen : (b : Bool) → length (cond b (slice_set heads r.pool (first_with (running_before s) w true (slice_index_or heads r.pool None))) heads) ≡ length heads
    chosen true = length-set heads r.pool (first_with (running_before s) w true (slice_index_or heads r.pool None))
    chosen false = refl

  module _ (pool : ℕ) (there : pool < length heads) where
    abbrev before : ℕ → ℕ → Bool
    before = running_before s

    set-there : (r : Running) (b : Bool) → (r.pool == pool) ≡ b
        → slice_index_or (slice_set heads r.pool (first_with before w true (slice_index_or heads r.pool None))) pool None ≡ first_with before w (b && true) (slice_index_or heads pool None)
    set-there r true e =
        let same : r.pool ≡ pool = eqb-true r.pool pool e in
        ap (λ (p : ℕ). slice_index_or (slice_set heads p (first_with before w true (slice_index_or heads p None))) pool None) same
        ∙ get_or-set_at heads pool pool (first_with before w true (slice_index_or heads pool None)) None refl there
    set-there r false e = get_or-set_other heads r.pool pool (first_with before w true (slice_index_or heads r.pool None)) None (λ same. eqb-false r.pool pool e (sym same))

    unset : (b : Bool) → slice_index_or heads pool None ≡ first_with before w (b && false) (slice_index_or heads pool None)
    unset true = refl
    unset false = refl

    with-first : (r : Option Running) → slice_index_or (with_head s w r heads) pool None ≡ first_with before w (runs_there pool r) (slice_index_or heads pool None)
    with-first None = refl
    with-first (Some r) = chosen (is_runnable r.mode) where
      chosen : (b : Bool) → slice_index_or (cond b (slice_set heads r.pool (first_with before w true (slice_index_or heads r.pool None))) heads) pool None
          ≡ first_with before w ((r.pool == pool) && b) (slice_index_or heads pool None)
      chosen true = set-there r (r.pool == pool) refl
      chosen false = unset (r.pool == pool)

module _ (S : ScenarioContents) (s : State) where
  heads-length : (w : ℕ) → length (heads_below S s w) ≡ pool_count S
  heads-length zero = length-replicate (pool_count S) None
  heads-length (suc w) = with-length s w (heads_below S s w) (running_at s w) ∙ heads-length w

  heads-first : (pool : ℕ) → pool < pool_count S → (w : ℕ) → slice_index_or (heads_below S s w) pool None ≡ first_below (running_before s) (λ w. runs_there pool (running_at s w)) w
  heads-first pool there zero = get_or-replicate (pool_count S) pool None None there
  heads-first pool there (suc w) =
      with-first s w (heads_below S s w) pool (subst (λ (n : ℕ). pool < n) (sym (heads-length w)) there) (running_at s w)
      ∙ ap (λ (found : Option ℕ). first_with (running_before s) w (runs_there pool (running_at s w)) found) (heads-first pool there w)

  pub head-first : (pool : ℕ) → pool < pool_count S → slice_index_or (heads_below S s (length S.works)) pool None ≡ first_runnable S s pool
  head-first pool there = heads-first pool there (length S.works)
