-- A pool's worklist has the works of one queue in the order in which they were queued.
use Rattle.std.proofs.Common.{◌≡◌, ℕ, ◌<◌, ◌≤◌, Bool, true, false, Option, Some, None, arith, refl, sym, ap, ◌∙◌, subst, inl, inr}
use Rattle.std.proofs.lemmas.Bool.{cases_eq}
use Rattle.cmwq_types.specs.Contents.{ScenarioContents}
use Rattle.cmwq_types.specs.Scenario.{queue_of}
use Rattle.cmwq_types.specs.declared.reply.Place.{Place}
use Rattle.cmwq_types.specs.declared.reply.Place.TheVariants.{Timer, Inactive, Listed, Deferred}
use Rattle.cmwq_table.specs.declared.state.Pending.{Pending}
use Rattle.cmwq_table.specs.declared.state.Running.{Running}
use Rattle.cmwq_table.specs.State.{State, pending_at, running_at}
use Rattle.cmwq_table.specs.Counts.{is_active, is_listed}
use Rattle.cmwq_table.specs.Moves.{fill}
use Rattle.cmwq_table.proofs.LawLemmas.Changes.{Kind, Change, Follows}
use Rattle.cmwq_table.proofs.LawLemmas.PoolOrder.{Change-pool_order, Follows-pool_order, HasActiveAt, HasInactiveAt, IsInPoolOrder}
use Rattle.cmwq_table.proofs.LawLemmas.Room.{AreFull, Change-full, Follows-full}
use Rattle.cmwq_table.proofs.LawLemmas.Sound.{IsSound, FitsIfPending, Change-sound, Follows-sound, Kind-next}

-- what a work pends as is listed in the pool, with this birth and this stamp
abbrev pub ListedAs : ℕ → Option Pending → ℕ → ℕ → Type 0
ListedAs pool (Some p) born stamp = (is_listed p.place pool ≡ true) × (p.born ≡ born) × (p.stamp ≡ stamp)
ListedAs pool None born stamp = ⊥

-- stamps lie below the next one, and rise with the births of one queue's works in one pool
pub record IsInListOrder (S : ScenarioContents) (s : State) : Type 0 where
  pub below : (w pool born stamp : ℕ) → ListedAs pool (pending_at s w) born stamp → stamp < s.next
  pub rises : (v w pool born stamp later last : ℕ) → queue_of S w ≡ queue_of S v → ListedAs pool (pending_at s v) born stamp
      → ListedAs pool (pending_at s w) later last → born < later → stamp < last

-- A change lists its work anew with the next stamp, behind all others of its queue; or it doesn't.
data Lists (S : ScenarioContents) (s : State) (w pool : ℕ) (a c : Option Pending) (n : ℕ) : Type 0 where
  keeps : ((born stamp : ℕ) → ListedAs pool c born stamp → ListedAs pool a born stamp) → Lists S s w pool a c n
  lists : s.next < n → ((born stamp : ℕ) → ListedAs pool c born stamp → (stamp ≡ s.next)
      × ((x early first : ℕ) → (x ≡ w → ⊥) → queue_of S x ≡ queue_of S w → ListedAs pool (pending_at s x) early first → early < born))
      → Lists S s w pool a c n

listed-below : (S : ScenarioContents) (next w pool born stamp : ℕ) (r : Option Running) (o : Option Pending) → FitsIfPending S next w r o
    → ListedAs pool o born stamp → born < next
listed-below S next w pool born stamp r (Some p) fits listed = omega (arith, fits.born, listed.1)
listed-below S next w pool born stamp r None fits listed = absurd listed

place-active : (place : Place) (pool : ℕ) → is_listed place pool ≡ true → is_active place pool ≡ true
place-active (Listed at) pool e = e
place-active (Timer due cpu) pool e = cc
place-active (Inactive at) pool e = cc
place-active (Deferred at) pool e = cc

listed-active : (pool born stamp : ℕ) (r : Option Running) (o : Option Pending) → ListedAs pool o born stamp → HasActiveAt pool o r born
listed-active pool born stamp r (Some p) listed = inl (place-active p.place pool listed.0, listed.1)
listed-active pool born stamp r None listed = absurd listed

Kind-lists : (S : ScenarioContents) (places wakes : Bool) (s : State) (w : ℕ) (left : Option ℕ) (a : Option Pending) (b : Option Running) (c : Option Pending) (d : Option Running) (n pool : ℕ)
    → IsSound S s → IsInPoolOrder S s → pending_at s w ≡ a → Kind S places wakes s w left a b c d n → Lists S s w pool a c n
Kind-lists S places wakes s w left a b c d n pool sound in_order is (Kind.placed r at e fits with_run room enabled) =
    Lists.lists (omega arith) (λ born stamp h. (
      sym h.2,
      λ x early first ne of_queue listed.
          let below : early < s.next = listed-below S s.next x pool early first (running_at s x) (pending_at s x) (sound.works x).pending listed in
          omega (arith, h.1),
    ))
Kind-lists S places wakes s w left a b c d n pool sound in_order is (Kind.put_off r at may_place fits with_run room enabled) = Lists.keeps (λ born stamp h. absurd cc)
Kind-lists S places wakes s w left a b c d n pool sound in_order is (Kind.timed r due cpu may_place in_range enabled) = Lists.keeps (λ born stamp h. absurd cc)
Kind-lists S places wakes s w left a b c d n pool sound in_order is (Kind.untimed born stamp r due cpu) = Lists.keeps (λ birth last h. absurd h)
Kind-lists S places wakes s w left a b c d n pool sound in_order is (Kind.taken_inactive born stamp r at) = Lists.keeps (λ birth last h. absurd h)
Kind-lists S places wakes s w left a b c d n pool sound in_order is (Kind.taken_listed born stamp r at) = Lists.keeps (λ birth last h. absurd h)
Kind-lists S places wakes s w left a b c d n pool sound in_order is (Kind.taken_deferred born stamp r at) = Lists.keeps (λ birth last h. absurd h)
Kind-lists S places wakes s w left a b c d n pool sound in_order is (Kind.activated born stamp r at room first) =
    Lists.lists (omega arith) (λ birth last h. (
      sym h.2,
      λ x early before ne of_queue listed.
          let waits : HasInactiveAt pool (pending_at s w) birth = subst (λ (o : Option Pending). HasInactiveAt pool o birth) (sym is) (h.0, h.1) in
          in_order x w pool early birth (sym of_queue) (listed-active pool early before (running_at s x) (pending_at s x) listed) waits,
    ))
Kind-lists S places wakes s w left a b c d n pool sound in_order is (Kind.started born stamp at worker may free) = Lists.keeps (λ birth last h. absurd h)
Kind-lists S places wakes s w left a b c d n pool sound in_order is (Kind.deferred born stamp at r) = Lists.keeps (λ birth last h. absurd cc)
Kind-lists S places wakes s w left a b c d n pool sound in_order is (Kind.goes_on p r q same_born same_pool same_worker mode) = Lists.keeps (λ birth last h. h)
Kind-lists S places wakes s w left a b c d n pool sound in_order is (Kind.woken p r q wake same_born same_pool same_worker) = Lists.keeps (λ birth last h. h)
Kind-lists S places wakes s w left a b c d n pool sound in_order is (Kind.again born stamp at r run) = Lists.keeps (λ birth last h. absurd h)
Kind-lists S places wakes s w left a b c d n pool sound in_order is (Kind.retired p r next e later) = Lists.keeps (λ birth last h. h)

same-born : (pool born stamp later last : ℕ) (o : Option Pending) → ListedAs pool o born stamp → ListedAs pool o later last → born ≡ later
same-born pool born stamp later last (Some p) one other = sym one.1 ∙ other.1
same-born pool born stamp later last None one other = absurd one

module _ (S : ScenarioContents) (places wakes : Bool) (left : Option ℕ) (s t : State) (w : ℕ) (sound : IsSound S s) (in_order : IsInPoolOrder S s) (listed : IsInListOrder S s) (change : Change S places wakes left s t w) where
  listed-else : (v pool born stamp : ℕ) → (v ≡ w → ⊥) → ListedAs pool (pending_at t v) born stamp → ListedAs pool (pending_at s v) born stamp
  listed-else v pool born stamp ne h = rw (change.alters.pending_else v ne) at h

  listed-now : (v pool born stamp : ℕ) → v ≡ w → ListedAs pool (pending_at t v) born stamp → ListedAs pool change.p born stamp
  listed-now v pool born stamp e h =
      let there : ListedAs pool (pending_at t w) born stamp = subst (λ (k : ℕ). ListedAs pool (pending_at t k) born stamp) e h in
      rw (change.alters.pending_here) at there

  kind : (pool : ℕ) → Lists S s w pool (pending_at s w) change.p t.next
  kind pool = Kind-lists S places wakes s w left (pending_at s w) (running_at s w) change.p change.r t.next pool sound in_order refl change.kind

  later : s.next ≤ t.next
  later = Kind-next S places wakes s w left (pending_at s w) (running_at s w) change.p change.r t.next change.kind

  below-here : (pool born stamp : ℕ) → Lists S s w pool (pending_at s w) change.p t.next → ListedAs pool change.p born stamp → stamp < t.next
  below-here pool born stamp (keeps before) h = let below : stamp < s.next = listed.below w pool born stamp (before born stamp h) in omega (arith, later)
  below-here pool born stamp (lists above fresh) h = omega (arith, above, (fresh born stamp h).0)

  rises-here : (pool born stamp : ℕ) → Lists S s w pool (pending_at s w) change.p t.next → (x birth last : ℕ) → (x ≡ w → ⊥) → queue_of S x ≡ queue_of S w
      → ListedAs pool change.p born stamp → ListedAs pool (pending_at s x) birth last → born < birth → stamp < last
  rises-here pool born stamp (keeps before) x birth last ne of_queue here there less = listed.rises w x pool born stamp birth last of_queue (before born stamp here) there less
  rises-here pool born stamp (lists above fresh) x birth last ne of_queue here there less =
      let early : birth < born = (fresh born stamp here).1 x birth last ne of_queue there in
      absurd (omega arith)

  rises-there : (v pool born stamp birth last : ℕ) → Lists S s w pool (pending_at s w) change.p t.next → queue_of S w ≡ queue_of S v
      → ListedAs pool (pending_at s v) born stamp → ListedAs pool change.p birth last → born < birth → stamp < last
  rises-there v pool born stamp birth last (keeps before) of_queue there here less = listed.rises v w pool born stamp birth last of_queue there (before birth last here) less
  rises-there v pool born stamp birth last (lists above fresh) of_queue there here less =
      let below : stamp < s.next = listed.below v pool born stamp there in
      omega (arith, (fresh birth last here).0)

  Change-list_order : IsInListOrder S t
  Change-list_order = record {
    below = λ v pool born stamp h. elim (cases_eq v w) [
      | inl v_is ↦ below-here pool born stamp (kind pool) (listed-now v pool born stamp v_is h)
      | inr v_ne ↦ (let below : stamp < s.next = listed.below v pool born stamp (listed-else v pool born stamp v_ne h) in omega (arith, later))
    ];
    rises = λ v x pool born stamp birth last of_queue one other less. elim (cases_eq v w) [
      | inl v_is ↦ elim (cases_eq x w) [
        | inl x_is ↦ (let same : born ≡ birth = same-born pool born stamp birth last change.p (listed-now v pool born stamp v_is one) (listed-now x pool birth last x_is other) in absurd (omega arith))
        | inr x_ne ↦ rises-here pool born stamp (kind pool) x birth last x_ne (of_queue ∙ ap (queue_of S) v_is) (listed-now v pool born stamp v_is one) (listed-else x pool birth last x_ne other) less
      ]
      | inr v_ne ↦ elim (cases_eq x w) [
        | inl x_is ↦ rises-there v pool born stamp birth last (kind pool) (ap (queue_of S) (sym x_is) ∙ of_queue) (listed-else v pool born stamp v_ne one) (listed-now x pool birth last x_is other) less
        | inr x_ne ↦ listed.rises v x pool born stamp birth last of_queue (listed-else v pool born stamp v_ne one) (listed-else x pool birth last x_ne other) less
      ]
    ];
  }

pub Follows-list_order : (S : ScenarioContents) (places wakes : Bool) (s t : State) → Follows S places wakes s t → IsSound S s
    → (places ≡ true → AreFull S s) → IsInPoolOrder S s → IsInListOrder S s → IsInListOrder S t
Follows-list_order S places wakes s t (Follows.stays pl wk a) sound are_full in_order listed = listed
Follows-list_order S places wakes s t (Follows.changes pl wk a b c w change rest) sound are_full in_order listed =
    Follows-list_order S places wakes b t rest (Change-sound S places wakes None s b w change sound)
    (λ e queue pool. Change-full S places wakes None s b w queue pool sound (λ none of_queue. cc) change (are_full e queue pool))
    (Change-pool_order S places wakes None s b w sound are_full in_order change)
    (Change-list_order S places wakes None s b w sound in_order listed change)
Follows-list_order S places wakes s t (Follows.leaves pl wk a b c w at change filled rest) sound are_full in_order listed =
    let after = fill S (queue_of S w) at b in
    let sound_then : IsSound S b = Change-sound S places wakes (Some at) s b w change sound in
    let order_then : IsInPoolOrder S b = Change-pool_order S places wakes (Some at) s b w sound are_full in_order change in
    let listed_then : IsInListOrder S b = Change-list_order S places wakes (Some at) s b w sound in_order listed change in
    Follows-list_order S places wakes after t rest (Follows-sound S false wakes b after filled sound_then)
    (λ e queue pool. Follows-full S places wakes s after queue pool (Follows.leaves places wakes s b after w at change filled (Follows.stays places wakes after)) sound (are_full e queue pool))
    (Follows-pool_order S false wakes b after filled sound_then (λ e. cc) order_then)
    (Follows-list_order S false wakes b after filled sound_then (λ e. cc) order_then listed_then)
