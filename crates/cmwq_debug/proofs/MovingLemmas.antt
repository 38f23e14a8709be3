-- Carrying out the instructions of a list, one after another.
use Rattle.std.proofs.Common.{◌≡◌, ℕ, zero, suc, ◌+◌, ◌-◌, ◌<◌, ◌≤◌, Bool, true, false, not, ◌&&◌, List, [], ◌∷◌, ◌++◌, length, Option, Some, None, take, arith, refl, sym, ap, ◌∙◌, subst}
use Rattle.std.proofs.lemmas.Bool.Decides.{nat_tests}
use Rattle.std.proofs.lemmas.Grind.{common_steps}
use Rattle.std.proofs.lemmas.List.{get_or-map}
use Rattle.std.specs.Prelude.{is_some, map, nat_le, slice_index_or}
use Rattle.cmwq_types.specs.Contents.{ScenarioContents}
use Rattle.cmwq_types.proofs.FirstLemmas.{first_below-agree}
use Rattle.cmwq_types.specs.First.{by_least}
use Rattle.cmwq_types.specs.declared.instr.Instr.{Instr}
use Rattle.cmwq_types.specs.declared.instr.Instr.TheVariants.{Next}
use Rattle.cmwq_types.specs.declared.reply.Reply.{Reply}
use Rattle.cmwq_table.proofs.RunLemmas.{after_all-append}
use Rattle.cmwq_table.specs.Events.{is_silent}
use Rattle.cmwq_table.specs.State.{State, start}
use Rattle.cmwq_table.specs.Table.{run, table}
use Rattle.cmwq_debug.specs.Breaks.{break_at, lowest, matches_seen, matches_there, said_by, said_of, seen, sight_at}
use Rattle.cmwq_debug.specs.Checkpoints.{Comes, Passes, Spread}
use Rattle.cmwq_debug.specs.Debugging.{Session, break_of, event_end, is_event, last_carried, next_event, reply_behind, run_end, session_of, stop}
use Rattle.cmwq_debug.specs.Replaying.{Course, HasAdvanced, HasGoneTo, next_reply}
use Rattle.cmwq_debug.specs.declared.breaks.Break.{Break}
use Rattle.cmwq_debug.specs.declared.breaks.Sight.{Sight}
use Rattle.cmwq_debug.proofs.LowestLemmas.{lowest-is, lowest-more, lowest-none}

-- an element that is there doesn't depend on what is read elsewhere
same_there : {A : Type 0} (xs : List A) (k : ℕ) (d e : A) → k < length xs → slice_index_or xs k d ≡ slice_index_or xs k e
same_there [] k d e less = absurd (omega arith)
same_there (x ∷ xs) zero d e less = refl
same_there (x ∷ xs) (suc k) d e less = same_there xs k d e (omega arith)

-- One instruction more.
module _ (S loaded : ScenarioContents) (instrs : List Instr) (k : ℕ) (s t : State) (reply : Reply) (d : Instr)
    (less : k < length instrs) (has : loaded ≡ S) (state : s ≡ run S (take k instrs)) (exact : (t, reply) ≡ table loaded s (slice_index_or instrs k d)) where
  answered : (t, reply) ≡ table S (run S (take k instrs)) (slice_index_or instrs k Next)
  answered =
      exact ∙ ap (λ (at : ScenarioContents). table at s (slice_index_or instrs k d)) has ∙ ap (λ (at : State). table S at (slice_index_or instrs k d)) state
      ∙ ap (table S (run S (take k instrs))) (same_there instrs k d Next less)

  pub reached : t ≡ run S (take (k + 1) instrs)
  reached =
      let more : take (k + 1) instrs ≡ take k instrs ++ slice_index_or instrs k Next ∷ [] = grind (arith, common_steps) in
      ap (λ (after : State × Reply). after.0) answered ∙ sym (ap (run S) more ∙ after_all-append S (start S) (take k instrs) (slice_index_or instrs k Next ∷ []))

-- the instruction that was carried out last, and its reply, once it is carried out again
pub last_is : (c : Course) (S : ScenarioContents) (I : List Instr) (position k : ℕ) (instr : Instr) (reply : Reply) → c.scenario ≡ S → c.instrs ≡ I → c.position ≡ k → position ≡ suc k → k < length I
    → instr ≡ slice_index_or I k instr → reply ≡ next_reply c → Some (instr, reply) ≡ last_carried S I position
last_is c S I position k instr reply scenario instrs at next less is_instr is_reply =
    let told : next_reply c ≡ (table S (run S (take k I)) (slice_index_or I k Next)).1 = rw (scenario, instrs, at) refl in
    ap (λ (i : Instr). Some (i, reply)) (is_instr ∙ same_there I k instr Next less)
    ∙ ap (λ (r : Reply). Some (slice_index_or I k Next, r)) (is_reply ∙ told) ∙ sym (ap (last_carried S I) next)

-- what the breaks saw of a state
sight_is : (s : State) (breaks : List (Option Break)) (i : ℕ) → i < length breaks → sight_at (map (seen s) breaks) i ≡ seen s (break_at breaks i)
sight_is s breaks i less = get_or-map (seen s) breaks i None (record { time = 0; pending = None }) less

by_sights : (breaks : List (Option Break)) (sights : List Sight) (s t : State) (reply : Reply) → sights ≡ map (seen s) breaks → said_by breaks sights t reply ≡ said_of breaks s t reply
by_sights breaks sights s t reply is =
    ap (λ (all : List Sight). said_by breaks all t reply) is
    ∙ first_below-agree (by_least (λ k. k)) (λ i. matches_seen (sight_at (map (seen s) breaks) i) t reply (break_at breaks i)) (λ i. matches_there s t reply (break_at breaks i)) (length breaks)
    (λ i less. ap (λ (before : Sight). matches_seen before t reply (break_at breaks i)) (sight_is s breaks i less))

-- what is said of the next instruction
pub said : (c : Course) (S : ScenarioContents) (I : List Instr) (k from : ℕ) (breaks : List (Option Break)) (sights : List Sight) (before after : State) (reply : Reply) → c.scenario ≡ S → c.instrs ≡ I → c.position ≡ k
    → before ≡ run S (take k I) → after ≡ run S (take (k + 1) I) → sights ≡ map (seen before) breaks → reply ≡ next_reply c → said_by breaks sights after reply ≡ break_of (session_of S I from breaks) k
said c S I k from breaks sights before after reply scenario instrs position is_before is_after saw is_reply =
    let told : next_reply c ≡ (table S (run S (take k I)) (slice_index_or I k Next)).1 = rw (scenario, instrs, position) refl in
    by_sights breaks sights before after reply saw
    ∙ ap (λ (s : State). said_of breaks s after reply) is_before ∙ ap (λ (t : State). said_of breaks (run S (take k I)) t reply) is_after
    ∙ ap (said_of breaks (run S (take k I)) (run S (take (k + 1) I))) (is_reply ∙ told)

-- going on by one instruction
passes-more : (s t u : Spread) (from k : ℕ) → from ≤ k → Passes s from (k - from) t → Comes t (k + 1) u → Passes s from (k + 1 - from) u
passes-more s t u from k forward so_far comes =
    let more : suc (k - from) ≡ k + 1 - from = omega (arith, forward) in
    let there : k + 1 ≡ from + suc (k - from) = omega (arith, forward) in
    subst (λ (n : ℕ). Passes s from n u) more (t, so_far, subst (λ (n : ℕ). Comes t n u) there comes)

pub gone-none : (c : Course) (k : ℕ) → k ≡ c.position → HasGoneTo c k c
gone-none c k at =
    let none : 0 ≡ k - c.position = omega (arith, at) in
    record { scenario = refl; instrs = refl; position = sym at; spread = subst (λ (n : ℕ). Passes c.spread c.position n c.spread) none refl }

pub gone-more : (start now new : Course) (k : ℕ) → start.position ≤ k → HasGoneTo start k now → HasAdvanced now new → HasGoneTo start (k + 1) new
gone-more start now new k forward so_far one =
    let at : now.position + 1 ≡ k + 1 = ap (λ (n : ℕ). n + 1) so_far.position in
    record {
      scenario = one.scenario ∙ so_far.scenario;
      instrs = one.instrs ∙ so_far.instrs;
      position = one.position ∙ at;
      spread = passes-more start.spread now.spread new.spread start.position k forward so_far.spread (subst (λ (n : ℕ). Comes now.spread n new.spread) at one.spread);
    }

-- A run from a position on.

and-first : (a b : Bool) → a ≡ false → (a && b) ≡ false
and-first a b is = rw is refl

and-both : (a b : Bool) → a ≡ true → b ≡ true → (a && b) ≡ true
and-both a b is_a is_b = rw (is_a, is_b) refl

and-last : (a b : Bool) → b ≡ false → (a && b) ≡ false
and-last true b is = is
and-last false b is = refl

module _ (d : Session) where
  abbrev pub matched : ℕ → Bool
  matched k = nat_le d.position k && is_some (break_of d k)

  pub none-yet : lowest matched d.position ≡ None
  none-yet = lowest-none matched d.position (λ k less. and-first (nat_le d.position k) (is_some (break_of d k)) (grind (arith, nat_tests)))

  pub none-more : (k : ℕ) (by : Option ℕ) → lowest matched k ≡ None → is_some by ≡ false → by ≡ break_of d k → lowest matched (k + 1) ≡ None
  none-more k by none fails is =
      let next : suc k ≡ k + 1 = omega arith in
      subst (λ (n : ℕ). lowest matched n ≡ None) next
      (lowest-more matched k none (and-last (nat_le d.position k) (is_some (break_of d k)) (ap (λ (o : Option ℕ). is_some o) (sym is) ∙ fails)))

  pub stopped : (k : ℕ) (by : Option ℕ) → d.position ≤ k → k < length d.instrs → lowest matched k ≡ None → is_some by ≡ true → by ≡ break_of d k → (k + 1, by) ≡ run_end d (stop d)
  stopped k by from less none holds is =
      let passes : matched k ≡ true = and-both (nat_le d.position k) (is_some (break_of d k)) (grind (arith, nat_tests)) (ap (λ (o : Option ℕ). is_some o) (sym is) ∙ holds) in
      let first : stop d ≡ Some k = lowest-is matched k (length d.instrs) none passes less in
      ap (λ (o : Option ℕ). (k + 1, o)) is ∙ sym (ap (run_end d) first)

  pub unstopped : (k : ℕ) → k ≡ length d.instrs → lowest matched k ≡ None → (k, None) ≡ run_end d (stop d)
  unstopped k end none =
      let all : stop d ≡ None = subst (λ (n : ℕ). lowest matched n ≡ None) end none in
      ap (λ (n : ℕ). (n, None)) end ∙ sym (ap (run_end d) all)

-- A way to the next event.
module _ (S : ScenarioContents) (I : List Instr) (from : ℕ) where
  pub no-event-yet : lowest (is_event S I from) from ≡ None
  no-event-yet = lowest-none (is_event S I from) from (λ k less. and-first (nat_le from k) (not (is_silent (reply_behind S I k))) (grind (arith, nat_tests)))

  pub no-event-more : (k : ℕ) (reply : Reply) → lowest (is_event S I from) k ≡ None → reply ≡ reply_behind S I k → is_silent reply ≡ true → lowest (is_event S I from) (k + 1) ≡ None
  no-event-more k reply none is silent =
      let next : suc k ≡ k + 1 = omega arith in
      subst (λ (n : ℕ). lowest (is_event S I from) n ≡ None) next
      (lowest-more (is_event S I from) k none (and-last (nat_le from k) (not (is_silent (reply_behind S I k))) (ap (λ (r : Reply). not (is_silent r)) (sym is) ∙ ap not silent)))

  pub event-there : (k : ℕ) (reply : Reply) → from ≤ k → k < length I → lowest (is_event S I from) k ≡ None → reply ≡ reply_behind S I k → is_silent reply ≡ false
      → k + 1 ≡ event_end I (next_event S I from)
  event-there k reply forward less none is heard =
      let passes : is_event S I from k ≡ true =
      and-both (nat_le from k) (not (is_silent (reply_behind S I k))) (grind (arith, nat_tests)) (ap (λ (r : Reply). not (is_silent r)) (sym is) ∙ ap not heard)
      in
      let first : next_event S I from ≡ Some k = lowest-is (is_event S I from) k (length I) none passes less in
      sym (ap (event_end I) first)

  pub no-event : (k : ℕ) → k ≡ length I → lowest (is_event S I from) k ≡ None → k ≡ event_end I (next_event S I from)
  no-event k end none =
      let all : next_event S I from ≡ None = subst (λ (n : ℕ). lowest (is_event S I from) n ≡ None) end none in
      end ∙ sym (ap (event_end I) all)

-- the reply to the next instruction
pub reply-is : (c : Course) (S : ScenarioContents) (I : List Instr) (k : ℕ) (reply : Reply) → c.scenario ≡ S → c.instrs ≡ I → c.position ≡ k → reply ≡ next_reply c → reply ≡ reply_behind S I k
reply-is c S I k reply scenario instrs position is =
    let told : next_reply c ≡ reply_behind S I k = rw (scenario, instrs, position) refl in
    is ∙ told
