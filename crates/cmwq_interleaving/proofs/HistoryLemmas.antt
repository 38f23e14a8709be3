-- What actors issue names works and queues of their scenario.
use Rattle.std.proofs.Common.{◌≡◌, ℕ, zero, suc, ◌+◌, ◌<◌, Bool, true, false, List, [], ◌∷◌, ◌++◌, map, length, replicate, take, get_or, cond, eqb, leb, Option, None, arith, refl, sym, ap, ◌∙◌, subst}
use Rattle.std.proofs.lemmas.Bool.Decides.{nat_tests}
use Rattle.std.proofs.lemmas.List.Elements.{All-from_recursion, recursion_from_All}
use Rattle.std.specs.List.{All, AllByRecursion, filter}
use Rattle.std.specs.Prelude.{IsTrue}
use Rattle.cmwq_types.specs.Contents.{ActorContents, ScenarioContents}
use Rattle.cmwq_types.specs.Faults.{IsValid, names_declared}
use Rattle.cmwq_types.specs.Scenario.{expand}
use Rattle.cmwq_types.specs.declared.instr.Instr.{Instr}
use Rattle.cmwq_engine.specs.History.{instrs_of}
use Rattle.cmwq_engine.specs.declared.history.Entry.{Entry}
use Rattle.cmwq_actors.specs.Interleaving.{HasNoOthers, InterleavesFronts, issued_by, script_at, scripts_of}
use Rattle.cmwq_annotated.proofs.CallerLemmas.{Declared, all_take, valid_declared}

-- each actor's instructions are declared, so those of a script are
script_declared : (S : ScenarioContents) (actors : List ActorContents) (actor : ℕ)
    → AllByRecursion (λ (a : ActorContents). AllByRecursion (Declared S) (expand a)) actors → AllByRecursion (Declared S) (script_at (map expand actors) actor)
script_declared S [] actor all = tt
script_declared S (a ∷ actors) zero all = all.0
script_declared S (a ∷ actors) (suc actor) all = script_declared S actors actor all.1

-- Of entries whose callers' instructions all pass, each passes.

module _ (P : Instr → Type 0) where
  own_later : (e : Entry) (history : List Entry) (caller : ℕ) → AllByRecursion P (issued_by caller (e ∷ history)) → AllByRecursion P (issued_by caller history)
  own_later e history caller all = at (eqb e.caller caller) all
    where
      at : (b : Bool) → AllByRecursion P (instrs_of (cond b (e ∷ filter (λ (f : Entry). eqb f.caller caller) history) (filter (λ (f : Entry). eqb f.caller caller) history)))
          → AllByRecursion P (issued_by caller history)
      at true all = all.1
      at false all = all

  own_first : (e : Entry) (history : List Entry) → AllByRecursion P (issued_by e.caller (e ∷ history)) → P e.instr
  own_first e history all = at (eqb e.caller e.caller) (grind (arith, nat_tests)) all
    where
      at : (b : Bool) → b ≡ true
          → AllByRecursion P (instrs_of (cond b (e ∷ filter (λ (f : Entry). eqb f.caller e.caller) history) (filter (λ (f : Entry). eqb f.caller e.caller) history))) → P e.instr
      at true is all = all.0
      at false is all = cc

  all_issued : (count : ℕ) (history : List Entry) → AllByRecursion (λ (e : Entry). e.caller < count) history
      → ((actor : ℕ) → actor < count → AllByRecursion P (issued_by actor history)) → AllByRecursion P (instrs_of history)
  all_issued count [] others each = tt
  all_issued count (e ∷ history) others each =
      (own_first e history (each e.caller others.0), all_issued count history others.1 (λ actor within. own_later e history actor (each actor within)))

pub fronts_declared : (S : ScenarioContents) (history : List Entry) → IsValid S → InterleavesFronts (scripts_of S) history
    → All (λ i. IsTrue (names_declared S i)) (instrs_of history)
fronts_declared S history valid fronts =
    All-from_recursion (λ i. IsTrue (names_declared S i)) (instrs_of history)
    (all_issued (Declared S) (length (scripts_of S)) history (recursion_from_All (λ (e : Entry). e.caller < length (scripts_of S)) history fronts.no_others)
    (λ actor within. subst (AllByRecursion (Declared S)) (sym (fronts.each actor within))
    (all_take (Declared S) (length (issued_by actor history)) (script_at (scripts_of S) actor) (script_declared S S.actors actor (valid_declared S valid)))))
