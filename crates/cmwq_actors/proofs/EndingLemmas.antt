-- What follows from each actor's ending.
use Rattle.std.proofs.Common.{◌≡◌, ℕ, ◌<◌, ◌≤◌, Bool, true, false, List, [], length, get_or, take, refl, sym, ◌∙◌, ap, subst, arith, length-append}
use Rattle.std.specs.List.{list_any}
use Rattle.std.proofs.Math.Seq.{take-length}
use Rattle.std.proofs.lemmas.List.Folds.{Any-from_list_any, list_any_at}
use Rattle.std.proofs.lemmas.List.{length-map}
use Rattle.cmwq_types.specs.Contents.{ActorContents, ScenarioContents}
use Rattle.cmwq_types.specs.Scenario.{expand}
use Rattle.cmwq_types.specs.declared.instr.Instr.{Instr}
use Rattle.cmwq_lock.specs.Log.{BeginsWith}
use Rattle.cmwq_lock.specs.declared.views.Knowledge.{Knowledge}
use Rattle.cmwq_engine.specs.Engine.{Contents, IsSound}
use Rattle.cmwq_engine.specs.History.{instrs_of}
use Rattle.cmwq_engine.specs.Shared.{IsLastHistory}
use Rattle.cmwq_engine.specs.declared.history.Entry.{Entry}
use Rattle.cmwq_engine.specs.declared.history.Setting.{Setting}
use Rattle.cmwq_actors.specs.Ending.{AllHaveEnded, EachHasEnded, HasEnded, ending_of, is_exhausted, is_full}
use Rattle.cmwq_actors.specs.Interleaving.{HasNoOthers, Interleaves, InterleavesFronts, IsFrontOf, issued_by, script_at, scripts_in, scripts_of}
use Rattle.cmwq_actors.specs.Playing.{EachHasPlayed, HasPassedEach}
use Rattle.cmwq_actors.specs.declared.ending.Ending.{Ending}
use Rattle.cmwq_actors.specs.declared.ending.Ending.TheVariants.{Done, Full, Exhausted}

nobody : Knowledge Entry
nobody = record { caller = 0; seen = []; mine = [] }

-- what an ending says of the history that a pass has seen, it says of the last one
said_of_last :
    (capacity : ℕ) (seen history : List Entry) (issued script : List Instr) (e : Ending)
    → BeginsWith history seen → length history ≤ capacity → HasEnded capacity seen issued script e → HasEnded capacity history issued script e
said_of_last capacity seen history issued script Done begins room ended = ended
said_of_last capacity seen history issued script Full begins room ended =
    let whole = ap length begins.1 ∙ length-append seen begins.0 in let full = ended.1 in (ended.0, omega arith)
said_of_last capacity seen history issued script Exhausted begins room ended = ended

-- what each pass knew makes what each ending says
pub each_has_ended :
    (passed : ℕ → ℕ → Type 0) (capacity : ℕ) (scripts : List (List Instr)) (endings : List Ending) (records : List (Knowledge Entry)) (history : List Entry)
    → EachHasPlayed passed capacity scripts endings records → length endings ≡ length scripts → IsLastHistory records history
    → length history ≤ capacity → EachHasEnded scripts capacity history endings
each_has_ended passed capacity scripts endings records history played as_many last room =
    record {
      counted = as_many;
      each = λ actor e below.
          let its = played.each actor e nobody below in
          let counted = played.counted in
          let known : actor < length records = omega arith in
          let knows = get_or records actor nobody in
          let own : issued_by actor history ≡ instrs_of knows.mine =
          subst (λ (c : ℕ). issued_by c history ≡ instrs_of knows.mine) its.caller_is
          (ap instrs_of (last.each_own actor nobody known))
          in
          said_of_last capacity knows.seen history (issued_by actor history) (script_at scripts actor) (get_or endings actor e)
          (last.each_seen actor nobody known) room
          (subst
          (λ (xs : List Instr). HasEnded capacity knows.seen xs (script_at scripts actor) (get_or endings actor e))
          (sym own) its.ended);
    }

-- each entry is of one of the actors
pub only_actors :
    (passed : ℕ → ℕ → Type 0) (capacity : ℕ) (scripts : List (List Instr)) (endings : List Ending) (records : List (Knowledge Entry)) (history : List Entry)
    → EachHasPlayed passed capacity scripts endings records → IsLastHistory records history → HasNoOthers (length scripts) history
only_actors passed capacity scripts endings records history played last k d below =
    let whose = last.no_others k d below in
    let counted = played.counted in
    let its : whose.0 < length scripts = (let known = whose.2 in omega arith) in
    let is = (played.each whose.0 Done whose.1 its).caller_is in
    let named : whose.1.caller ≡ whose.0 = subst (λ (x : Knowledge Entry). x.caller ≡ whose.0) whose.3 is in
    let caller = whose.4 in
    omega arith

-- who has issued so many calls has passed the gate before each
pub each_has_passed :
    (passed : ℕ → ℕ → Type 0) (capacity : ℕ) (scripts : List (List Instr)) (endings : List Ending) (records : List (Knowledge Entry))
    (history : List Entry)
    → EachHasPlayed passed capacity scripts endings records → IsLastHistory records history
    → (actor : ℕ) → actor < length scripts → HasPassedEach passed actor (length (issued_by actor history))
each_has_passed passed capacity scripts endings records history played last actor below =
    let its = played.each actor Done nobody below in
    let counted = played.counted in
    let known : actor < length records = omega arith in
    let knows = get_or records actor nobody in
    let own : issued_by actor history ≡ instrs_of knows.mine =
    subst (λ (c : ℕ). issued_by c history ≡ instrs_of knows.mine) its.caller_is
    (ap instrs_of (last.each_own actor nobody known))
    in
    let calls : length knows.mine ≡ length (issued_by actor history) = sym (ap length own ∙ length-map knows.mine (λ (e : Entry). e.instr)) in
    subst (λ (n : ℕ). HasPassedEach passed actor n) calls its.gate

-- a whole script is a front of it
front_of_ending : (capacity : ℕ) (history : List Entry) (issued script : List Instr) (e : Ending) → HasEnded capacity history issued script e → IsFrontOf issued script
front_of_ending capacity history issued script Done ended =
    sym (ap (λ n. take n script) (ap length ended) ∙ take-length script ∙ sym ended)
front_of_ending capacity history issued script Full ended = ended.0
front_of_ending capacity history issued script Exhausted ended = ended

full_of_ending : (capacity : ℕ) (history : List Entry) (issued script : List Instr) (e : Ending) → is_full e ≡ true → HasEnded capacity history issued script e → length history ≡ capacity
full_of_ending capacity history issued script Done is ended = cc
full_of_ending capacity history issued script Full is ended = ended.1
full_of_ending capacity history issued script Exhausted is ended = cc

done_of_ending :
    (capacity : ℕ) (history : List Entry) (issued script : List Instr) (e : Ending)
    → is_exhausted e ≡ false → is_full e ≡ false → HasEnded capacity history issued script e → issued ≡ script
done_of_ending capacity history issued script Done no_ticket no_room ended = ended
done_of_ending capacity history issued script Full no_ticket no_room ended = cc
done_of_ending capacity history issued script Exhausted no_ticket no_room ended = cc

-- where no element passes, none does
none_passes : {A : Type 0} (p : A → Bool) (xs : List A) → list_any p xs ≡ false → (i : ℕ) (d : A) → i < length xs → p (get_or xs i d) ≡ false
none_passes p xs none i d below =
    let cases : (b : Bool) → p (get_or xs i d) ≡ b → p (get_or xs i d) ≡ false =
    elim [ true ↦ λ passes. absurd (let some = list_any_at p xs i d below passes in cc) | false ↦ λ fails. fails ]
    in
    cases (p (get_or xs i d)) refl

-- what each ending says makes what the ending of all says
pub all_have_ended :
    (capacity : ℕ) (scripts : List (List Instr)) (endings : List Ending) (history : List Entry)
    → EachHasEnded scripts capacity history endings → HasNoOthers (length scripts) history
    → AllHaveEnded scripts capacity history (ending_of endings)
all_have_ended capacity scripts endings history ended no_others =
    let fronts : InterleavesFronts scripts history = record {
      each = λ actor below.
          front_of_ending capacity history (issued_by actor history) (script_at scripts actor) (get_or endings actor Done) (ended.each actor Done below);
      no_others = no_others;
    } in
    let counted = ended.counted in
    let by_tickets : (b : Bool) → list_any is_exhausted endings ≡ b → AllHaveEnded scripts capacity history (ending_of endings) =
    elim [
      | true ↦ λ is. rw is fronts
      | false ↦ λ no_ticket.
          let by_room : (b : Bool) → list_any is_full endings ≡ b → AllHaveEnded scripts capacity history (ending_of endings) =
          elim [
            | true ↦ λ is.
                let who = Any-from_list_any is_full endings is in
                let below : who.0 < length scripts = (let known = who.2 in omega arith) in
                rw (no_ticket, is)
                (fronts, full_of_ending capacity history (issued_by who.0 history) (script_at scripts who.0) (get_or endings who.0 who.1) (rw who.3 who.4) (ended.each who.0 who.1 below))
            | false ↦ λ no_room.
                let whole : Interleaves scripts history = record {
                  each = λ actor below.
                      let known : actor < length endings = omega arith in
                      done_of_ending capacity history (issued_by actor history) (script_at scripts actor) (get_or endings actor Done)
                      (none_passes is_exhausted endings no_ticket actor Done known)
                      (none_passes is_full endings no_room actor Done known)
                      (ended.each actor Done below);
                  no_others = no_others;
                } in
                rw (no_ticket, no_room) whole
          ]
          in
          by_room (list_any is_full endings) refl
    ]
    in
    by_tickets (list_any is_exhausted endings) refl

-- what stands when the lock is closed: each actor's ending, and that of all
pub enacted :
    (passed : ℕ → ℕ → Type 0) (S : ScenarioContents) (capacity : ℕ) (actors : List ActorContents) (from : Setting) (engine : Contents) (endings : List Ending)
    (records : List (Knowledge Entry))
    → actors ≡ S.actors → from ≡ record { scenario = S; capacity = capacity } → engine.setting ≡ from → IsSound engine
    → EachHasPlayed passed from.capacity (scripts_in actors) endings records → length endings ≡ length actors → IsLastHistory records engine.history
    → EachHasEnded (scripts_of S) capacity engine.history endings × AllHaveEnded (scripts_of S) capacity engine.history (ending_of endings)
    × ((actor : ℕ) → actor < length S.actors → HasPassedEach passed actor (length (issued_by actor engine.history)))
enacted passed S capacity actors from engine endings records are is setting sound played as_many last =
    let room_is : from.capacity ≡ capacity = ap (λ (s : Setting). s.capacity) is in
    let known : EachHasPlayed passed capacity (scripts_of S) endings records =
    subst (λ (n : ℕ). EachHasPlayed passed n (scripts_of S) endings records) room_is
    (subst (λ (xs : List ActorContents). EachHasPlayed passed from.capacity (scripts_in xs) endings records) are played)
    in
    let room : length engine.history ≤ capacity =
    subst (λ (s : Setting). length engine.history ≤ s.capacity) (setting ∙ is) sound.legal.bounded
    in
    let counted : length endings ≡ length (scripts_of S) = as_many ∙ ap length are ∙ sym (length-map S.actors expand) in
    let each = each_has_ended passed capacity (scripts_of S) endings records engine.history known counted last room in
    let no_others = only_actors passed capacity (scripts_of S) endings records engine.history known last in
    let scripts : length (scripts_of S) ≡ length S.actors = length-map S.actors expand in (
      each,
      all_have_ended capacity (scripts_of S) endings engine.history each no_others,
      λ actor below. each_has_passed passed capacity (scripts_of S) endings records engine.history known last actor (omega arith),
    )
