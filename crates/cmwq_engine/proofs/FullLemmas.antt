-- Tickets of issues that found the history full.
use Rattle.std.proofs.Common.{◌≡◌, ℕ, zero, suc, ◌+◌, ◌-◌, ◌<◌, ◌^◌, List, [], ◌∷◌, ◌++◌, length, arith, refl, sym, subst}
use Rattle.std.specs.Prelude.{All, slice_index_or}
use Rattle.cmwq_lock.specs.Views.{seen_of}
use Rattle.cmwq_engine.specs.Shared.{EngineView, HasNothingNew}
use Rattle.cmwq_engine.specs.declared.history.Entry.{Entry}
use Rattle.cmwq_engine.specs.FullIssues.{HasSeen, HasSeenBefore, SeesOnlyMore, entry_before, last_entry}

within-more : (xs ys : List Entry) (k : ℕ) → k < length xs → k < length (xs ++ ys)
within-more (x ∷ xs) ys zero h = omega arith
within-more (x ∷ xs) ys (suc k) h = let more : k < length (xs ++ ys) = within-more xs ys k (omega (arith, h)) in omega (arith, more)
within-more [] ys k h = absurd (omega (arith, h))

same-entry : (xs ys : List Entry) (k : ℕ) (d : Entry) → k < length xs → slice_index_or (xs ++ ys) k d ≡ slice_index_or xs k d
same-entry (x ∷ xs) ys zero d h = refl
same-entry (x ∷ xs) ys (suc k) d h = same-entry xs ys k d (omega (arith, h))
same-entry [] ys k d h = absurd (omega (arith, h))

front-all : (P : Entry → Type 0) (xs ys : List Entry) → All P (xs ++ ys) → All P xs
front-all P xs ys all k d h = subst P (same-entry xs ys k d h) (all k d (within-more xs ys k h))

pub sees_only_more : SeesOnlyMore
unfolding SeesOnlyMore
sees_only_more from before after ticket turn all =
    let IsEarlier = λ (e : Entry). e.ticket < ticket in
    front-all IsEarlier (seen_of before) turn.begins.0 (subst (All IsEarlier) turn.begins.1 all)

-- the entry of those that were seen
seen-first : (view : EngineView) (entry : Entry) (ticket : ℕ) → HasSeen entry view → HasSeenBefore ticket view → entry.ticket < ticket
seen-first view entry ticket seen all =
    let alone : All (λ (e : Entry). e.ticket < ticket) (entry ∷ []) = subst (All (λ (e : Entry). e.ticket < ticket)) seen all in
    alone 0 entry (omega arith)

too-late : (ticket : ℕ) → ticket < 2 ^ 62 → 2 ^ 62 - 1 < ticket → ⊥
too-late ticket h g = omega (arith, h, g)

pub none-last : (before after : EngineView) → HasSeen last_entry after → HasNothingNew before after → ⊥
none-last before after seen nothing = too-late nothing.ticket nothing.in_range (seen-first after last_entry nothing.ticket seen nothing.none_new)

pub none-last_seen : (before after : EngineView) → HasSeen last_entry before → HasNothingNew before after → ⊥
none-last_seen before after seen nothing = too-late nothing.ticket nothing.in_range (seen-first before last_entry nothing.ticket seen nothing.later)

only-first : (entry : Entry) (ticket : ℕ) → entry.ticket < ticket → All (λ (e : Entry). e.ticket < ticket) (entry ∷ [])
only-first entry ticket h zero d within = h
only-first entry ticket h (suc k) d within = absurd (omega (arith, within))

all-seen : (view : EngineView) (entry : Entry) (ticket : ℕ) → HasSeen entry view → entry.ticket < ticket → HasSeenBefore ticket view
all-seen view entry ticket seen h = subst (All (λ (e : Entry). e.ticket < ticket)) (sym seen) (only-first entry ticket h)

pub before-last : (before after : EngineView) → HasSeen entry_before before → HasSeen entry_before after → HasNothingNew before after
before-last before after seen seen_then = record {
  ticket = 2 ^ 62 - 1;
  in_range = omega arith;
  later = all-seen before entry_before (2 ^ 62 - 1) seen (omega arith);
  none_new = all-seen after entry_before (2 ^ 62 - 1) seen_then (omega arith);
}
