-- What is read of the values of `explore`.
use Rattle.std.proofs.Common.{ap, sym, ◌≡◌, ◌∙◌, ℕ, Bool, List, ◌∷◌, true, false, Option, None, Some, codes, refl, option_and_then}
use Rattle.clap.specs.Words.{Row, Text}
use Rattle.cmwq_rings.specs.Rings.{Pair, goes_in_ring}
use Rattle.cmwq_request.specs.Request.{Forbidden, asked_explore, exploration_from, explore_arguments, explored_from, file_to_explore, flag_of, limit_from, never_from, pairs_from, words_to_explore}

pub explore_met : (rows : List Row) (asked : List Text) → file_to_explore rows ≡ Some asked
    → (stuck : Bool) × (flag_of (codes "stuck") rows ≡ Some stuck) × (asked_explore stuck rows ≡ Some asked)
explore_met rows asked = by (flag_of (codes "stuck") rows)
  where
    by : (flag : Option Bool) → option_and_then (λ stuck. asked_explore stuck rows) flag ≡ Some asked
        → (stuck : Bool) × (flag ≡ Some stuck) × (asked_explore stuck rows ≡ Some asked)
    by (Some stuck) e = (stuck, refl, e)
    by None e = absurd cc

-- a part that is nothing

pub none_forbidden : (never : Option Forbidden) (pairs : List Pair) (limit : Option ℕ) (file : Option Text) → never ≡ None
    → words_to_explore (exploration_from false never pairs limit) file ≡ None
none_forbidden never pairs limit (Some file) none = ap (λ (o : Option Forbidden). words_to_explore (exploration_from false o pairs limit) (Some file)) none
none_forbidden never pairs limit None none = refl

pub none_limited : (never : Option Forbidden) (pairs : List Pair) (limit : Option ℕ) (file : Option Text) → limit ≡ None
    → words_to_explore (exploration_from false never pairs limit) file ≡ None
none_limited (Some never) pairs limit (Some file) none = ap (λ (n : Option ℕ). words_to_explore (exploration_from false (Some never) pairs n) (Some file)) none
none_limited None pairs limit (Some file) none = refl
none_limited never pairs limit None none = refl

-- all parts
pub all_given : (never : Option Forbidden) (pairs : List Pair) (limit : Option ℕ) (file : Option Text) (forbids : Forbidden) (states : ℕ) (name : Text) → Some forbids ≡ never
    → Some states ≡ limit → Some name ≡ file
    → Some (codes "explore" ∷ explore_arguments (record { never = forbids; before = pairs; limit = states }) name)
    ≡ words_to_explore (exploration_from false never pairs limit) file
all_given never pairs limit file forbids states name is number path =
    ap (λ (o : Option Forbidden). words_to_explore (exploration_from false o pairs (Some states)) (Some name)) is
    ∙ ap (λ (n : Option ℕ). words_to_explore (exploration_from false never pairs n) (Some name)) number
    ∙ ap (λ (f : Option Text). words_to_explore (exploration_from false never pairs limit) f) path

-- pairs that go in a ring, and pairs that don't

pub rings_ask_nothing : (stuck : Bool) (after : Option Text) (works before : Option (List Text)) (limit file : Option Text) → goes_in_ring (pairs_from before) ≡ true
    → explored_from stuck after works before limit file ≡ None
rings_ask_nothing stuck after works before limit (Some file) ring =
    ap (λ (rings : Bool). words_to_explore (exploration_from rings (never_from stuck after works) (pairs_from before) (limit_from limit)) (Some file)) ring
    ∙ nothing (never_from stuck after works) (limit_from limit)
  where
    nothing : (never : Option Forbidden) (states : Option ℕ) → words_to_explore (exploration_from true never (pairs_from before) states) (Some file) ≡ None
    nothing (Some never) (Some states) = refl
    nothing (Some never) None = refl
    nothing None states = refl
rings_ask_nothing stuck after works before limit None ring = refl

pub as_asked : (stuck : Bool) (after : Option Text) (works before : Option (List Text)) (limit file : Option Text) (pairs : List Pair) → pairs ≡ pairs_from before
    → goes_in_ring pairs ≡ false
    → words_to_explore (exploration_from false (never_from stuck after works) pairs (limit_from limit)) file ≡ explored_from stuck after works before limit file
as_asked stuck after works before limit file pairs are none =
    ap (λ (rings : Bool). words_to_explore (exploration_from rings (never_from stuck after works) pairs (limit_from limit)) file) (sym none)
    ∙ ap (λ (ps : List Pair). words_to_explore (exploration_from (goes_in_ring ps) (never_from stuck after works) ps (limit_from limit)) file) are
