-- What the actors that have ended have played.
use Rattle.std.proofs.Common.{◌≡◌, ℕ, ◌+◌, ◌<◌, List, [], ◌∷◌, ◌++◌, Option, Some, length, get_or, sym, ◌∙◌, ap, subst, below_more, arith}
use Rattle.std.proofs.Math.ListN.{get_or-append}
use Rattle.std.proofs.Math.Seq.{get_or-append_seam}
use Rattle.std.proofs.lemmas.List.{get_or-map, length-map}
use Rattle.cmwq_types.specs.Contents.{ActorContents}
use Rattle.cmwq_types.specs.Scenario.{expand, expand_lines}
use Rattle.cmwq_types.specs.declared.scenario.Line.{Line}
use Rattle.cmwq_types.specs.declared.instr.Instr.{Instr}
use Rattle.cmwq_lock.specs.declared.views.Knowledge.{Knowledge}
use Rattle.cmwq_engine.specs.Shared.{EngineLock, setting_of}
use Rattle.cmwq_engine.specs.declared.history.Entry.{Entry}
use Rattle.cmwq_actors.specs.Interleaving.{script_at, scripts_in}
use Rattle.cmwq_actors.specs.Playing.{EachHasPlayed, HasPlayed}
use Rattle.cmwq_actors.specs.declared.ending.Ending.{Ending}

-- what a thread has promised, in the words of the loop that joins it
pub promised :
    {G : Type 0}
    (gate_of gate : G) (passed : G → ℕ → ℕ → Type 0) (of shared : EngineLock) (number actor : ℕ) (script : List Instr) (o : Option Ending) (e : Ending) (k : Knowledge Entry)
    → gate_of ≡ gate → of ≡ shared → number ≡ actor → o ≡ Some e → HasPlayed (passed gate_of) (setting_of of).capacity number script o k
    → HasPlayed (passed gate) (setting_of shared).capacity actor script (Some e) k
promised {G} gate_of gate passed of shared number actor script o e k same_gate same is ended played =
    subst (λ (x : G). HasPlayed (passed x) (setting_of shared).capacity actor script (Some e) k) same_gate
    (subst (λ (x : EngineLock). HasPlayed (passed gate_of) (setting_of x).capacity actor script (Some e) k) same
    (subst (λ (x : ℕ). HasPlayed (passed gate_of) (setting_of of).capacity x script (Some e) k) is
    (subst (λ (x : Option Ending). HasPlayed (passed gate_of) (setting_of of).capacity number script x k) ended played)))

-- where each of n actors has played, and one more has, each of them all has
pub one_more_played :
    (passed : ℕ → ℕ → Type 0) (capacity n : ℕ) (script : ℕ → List Instr) (endings : List Ending) (records : List (Knowledge Entry)) (last : Ending) (knows : Knowledge Entry)
    → n ≡ length endings → n ≡ length records
    → ((i : ℕ) (e : Ending) (k : Knowledge Entry) → i < n → HasPlayed passed capacity i (script i) (Some (get_or endings i e)) (get_or records i k))
    → HasPlayed passed capacity n (script n) (Some last) knows
    → (i : ℕ) (e : Ending) (k : Knowledge Entry) → i < n + 1
    → HasPlayed passed capacity i (script i) (Some (get_or (endings ++ last ∷ []) i e)) (get_or (records ++ knows ∷ []) i k)
one_more_played passed capacity n script endings records last knows ended recorded each played i e k below =
    let earlier_ending = λ (j : ℕ) (low : j < n). get_or-append endings (last ∷ []) e j (omega arith) in
    let earlier_record = λ (j : ℕ) (low : j < n). get_or-append records (knows ∷ []) k j (omega arith) in
    let last_ending : get_or (endings ++ last ∷ []) n e ≡ last =
    ap (λ m. get_or (endings ++ last ∷ []) m e) ended ∙ get_or-append_seam endings last [] e
    in
    let last_record : get_or (records ++ knows ∷ []) n k ≡ knows =
    ap (λ m. get_or (records ++ knows ∷ []) m k) recorded ∙ get_or-append_seam records knows [] k
    in
    below_more (λ j. HasPlayed passed capacity j (script j) (Some (get_or (endings ++ last ∷ []) j e)) (get_or (records ++ knows ∷ []) j k)) n
    (λ j low. rw (earlier_ending j low, earlier_record j low) (each j e k low))
    (rw (last_ending, last_record) played)
    i below

-- where the threads are of these actors, and each has played, all actors have
pub all_have_played :
    {A : Type 0} (threads : List A) (lines : A → List Line) (passed : ℕ → ℕ → Type 0) (capacity : ℕ) (actors : List ActorContents) (endings : List Ending)
    (records : List (Knowledge Entry))
    → length threads ≡ length actors → length records ≡ length threads
    → ((i : ℕ) (t : A) (a : ActorContents) → i < length threads → lines (get_or threads i t) ≡ (get_or actors i a).lines)
    → ((i : ℕ) (t : A) (e : Ending) (k : Knowledge Entry) → i < length threads
    → HasPlayed passed capacity i (expand_lines (lines (get_or threads i t))) (Some (get_or endings i e)) (get_or records i k))
    → EachHasPlayed passed capacity (scripts_in actors) endings records
all_have_played [] lines passed capacity actors endings records as_many recorded parts played =
    let none : length actors ≡ 0 = sym as_many in
    let scripts : length (scripts_in actors) ≡ length actors = length-map actors expand in
    record { counted = recorded ∙ as_many ∙ sym scripts; each = λ i e k below. absurd (omega arith) }
all_have_played (x ∷ xs) lines passed capacity actors endings records as_many recorded parts played =
    let threads = x ∷ xs in
    let nobody : ActorContents = record { name = []; lines = [] } in
    let scripts : length (scripts_in actors) ≡ length actors = length-map actors expand in
    record {
      counted = recorded ∙ as_many ∙ sym scripts;
      each = λ i e k below.
          let low : i < length actors = omega arith in
          let here : i < length threads = omega arith in
          let script : script_at (scripts_in actors) i ≡ expand (get_or actors i nobody) = get_or-map expand actors i nobody [] low in
          let is : expand_lines (lines (get_or threads i x)) ≡ script_at (scripts_in actors) i =
          ap expand_lines (parts i x nobody here) ∙ sym script
          in
          subst (λ (s : List Instr). HasPlayed passed capacity i s (Some (get_or endings i e)) (get_or records i k)) is (played i x e k here);
    }
