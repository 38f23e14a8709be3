-- In each state that a run comes to the births and the stamps of what pends are below the next stamp. So nothing is told where nothing changed.
use Rattle.std.proofs.Common.{◌≡◌, ℕ, zero, suc, ◌+◌, ◌<◌, ◌≤◌, Bool, true, false, cond, List, [], ◌∷◌, ◌++◌, length, map, replicate, Option, Some, None, arith, refl, sym, ap, ◌∙◌, subst, inl, inr, ◌⊎◌}
use Rattle.std.proofs.lemmas.Bool.Decides.{nat_tests}
use Rattle.std.specs.Prelude.{◌==◌, nat_lt, option_to_list, slice_index_or, slice_set}
use Rattle.cmwq_types.specs.Contents.{ScenarioContents}
use Rattle.cmwq_types.specs.declared.instr.Instr.{Instr}
use Rattle.cmwq_types.specs.declared.reply.Place.TheVariants.{Deferred}
use Rattle.cmwq_types.specs.declared.reply.Reply.{Reply}
use Rattle.cmwq_table.specs.State.{State, pending_at, start}
use Rattle.cmwq_table.specs.Table.{after_all, run, table}
use Rattle.cmwq_table.specs.View.{entries_from}
use Rattle.cmwq_table.specs.declared.state.Pending.{Pending}
use Rattle.cmwq_tell.specs.declared.change.Change.{Change}
use Rattle.cmwq_tell.specs.declared.change.Change.TheVariants as change
use Rattle.cmwq_tell.specs.Hidden.{change_of, hidden, stamped_from, start_told}
use Rattle.cmwq_tell.proofs.Becoming.{Becomes, Goes, set_cases, table-goes}

abbrev pub IsBelow : ℕ → Option Pending → Type 0
IsBelow next (Some p) = (p.born < next) × (p.stamp < next)
IsBelow next None = Unit {0}

abbrev pub AllBelow : State → Type 0
AllBelow s = (w : ℕ) → IsBelow s.next (pending_at s w)

below-later : (a b : ℕ) (o : Option Pending) → a ≤ b → IsBelow a o → IsBelow b o
below-later a b (Some p) h below = (omega (arith, below.0), omega (arith, below.1))
below-later a b None h below = tt

becomes-below : (a b : ℕ) (o q : Option Pending) → a ≤ b → Becomes a b o q → IsBelow a o → IsBelow b q
becomes-below a b o q h (Becomes.stays _) below = below-later a b o h below
becomes-below a b o q h (Becomes.gone _) below = tt
becomes-below a b o q h (Becomes.fresh _ p x y z w) below = (y, w)
becomes-below a b o q h (Becomes.activated p stamp pool is x y) below = (omega (arith, below.0), y)

deferred-below : (s t : State) (w v : ℕ) (p q : Pending) → t.pending ≡ slice_set s.pending w (Some q) → q.born ≡ p.born → q.stamp ≡ p.stamp → pending_at s w ≡ Some p → AllBelow s → IsBelow s.next (pending_at t v)
deferred-below s t w v p q set born stamp is below = at (set_cases s.pending w v (Some q)) where
  at : (slice_index_or (slice_set s.pending w (Some q)) v None ≡ pending_at s v) ⊎ ((v ≡ w) × (slice_index_or (slice_set s.pending w (Some q)) v None ≡ Some q)) → IsBelow s.next (pending_at t v)
  at (inl same) =
      subst (λ (o : Option Pending). IsBelow s.next o) (sym (ap (λ (pending : List (Option Pending)). slice_index_or pending v None) set ∙ same)) (below v)
  at (inr here) =
      let was : (p.born < s.next) × (p.stamp < s.next) = subst (λ (o : Option Pending). IsBelow s.next o) is (below w) in
      subst (λ (o : Option Pending). IsBelow s.next o) (sym (ap (λ (pending : List (Option Pending)). slice_index_or pending v None) set ∙ here.1)) (omega (arith, was.0, born), omega (arith, was.1, stamp))

goes-below : (s t : State) → Goes s t → AllBelow s → AllBelow t
goes-below s t (inl moves) below = λ w. becomes-below s.next t.next (pending_at s w) (pending_at t w) moves.next (moves.works w) (below w)
goes-below s t (inr d) below = λ v. subst (λ (next : ℕ). IsBelow next (pending_at t v)) (sym d.next) (deferred-below s t d.w v d.p (record d.p { place = Deferred d.pool }) d.pending refl refl d.was below)

none-pends : (next n w : ℕ) → IsBelow next (slice_index_or (replicate n None) w None)
none-pends next zero w = tt
none-pends next (suc n) zero = tt
none-pends next (suc n) (suc w) = none-pends next n w

all-below : (S : ScenarioContents) (s : State) (instrs : List Instr) → AllBelow s → AllBelow (after_all S s instrs)
all-below S s [] below = below
all-below S s (i ∷ instrs) below = all-below S (table S s i).0 instrs (goes-below s (table S s i).0 (table-goes S s i) below)

pub run-below : (S : ScenarioContents) (instrs : List Instr) → AllBelow (run S instrs)
run-below S instrs = all-below S (start S) instrs (none-pends 0 (length S.works))

-- No hidden change.

cond-true : {A : Type 0} (b : Bool) (x y : A) → b ≡ true → cond b x y ≡ x
cond-true true x y e = refl
cond-true false x y e = cc

none-stamped : (next o : ℕ) (xs : List (Option Pending)) → ((w : ℕ) → IsBelow next (slice_index_or xs w None)) → stamped_from next (entries_from o xs) ≡ []
none-stamped next o [] each = refl
none-stamped next o (None ∷ xs) each = none-stamped next (o + 1) xs (λ w. each (suc w))
none-stamped next o (Some p ∷ xs) each =
    let below : p.stamp < next = (each 0).1 in
    let old : nat_lt p.stamp next ≡ true = grind (arith, nat_tests) in
    cond-true (nat_lt p.stamp next) (stamped_from next (entries_from (o + 1) xs)) _ old ∙ none-stamped next (o + 1) xs (λ w. each (suc w))

pub nothing-hidden : (s : State) (r : Reply) → AllBelow s → start_told s r ≡ None → hidden s s r ≡ []
nothing-hidden s r below unstarted =
    let still : (s.time == s.time) ≡ true = grind (arith, nat_tests) in
    let stamped = map (change_of s.next) (stamped_from s.next (entries_from 0 s.pending)) in
    ap (λ (changes : List Change). changes ++ option_to_list (start_told s r) ++ stamped) (cond-true (s.time == s.time) [] (change.Now s.time ∷ []) still)
    ∙ ap (λ (start : Option Change). option_to_list start ++ stamped) unstarted
    ∙ ap (λ entries. map (change_of s.next) entries) (none-stamped s.next 0 s.pending below)

pub hidden-same : (s t : State) (r : Reply) → AllBelow s → t ≡ s → start_told t r ≡ None → hidden s t r ≡ []
hidden-same s t r below e unstarted = ap (λ (u : State). hidden s u r) e ∙ nothing-hidden s r below (subst (λ (u : State). start_told u r ≡ None) e unstarted)
