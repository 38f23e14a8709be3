-- A run that is told as it goes tells what is told at its positions.
use Rattle.std.proofs.Common.{◌≡◌, ◌≤◌, ◌<◌, ℕ, zero, suc, ◌+◌, ◌-◌, ◌^◌, List, [], ◌∷◌, ◌++◌, length, take, Bool, true, false, ◌||◌, None, Option, Result, refl, sym, ap, ◌∙◌, append-nil, arith, eq-eqb}
use Rattle.std.proofs.lemmas.Bool.{ne_eqb}
use Rattle.std.proofs.lemmas.List.{take_all, take_more}
use Rattle.std.specs.Prelude.{slice_index_or, if◌then◌else◌, ◌==◌, min}
use Rattle.cmwq_types.specs.Contents.{ScenarioContents}
use Rattle.cmwq_types.specs.declared.instr.Instr.{Instr}
use Rattle.cmwq_types.specs.declared.instr.Instr.TheVariants.{Next}
use Rattle.cmwq_types.specs.declared.limits.TheConstants.{MAX_HISTORY}
use Rattle.cmwq_table.specs.State.{State, start}
use Rattle.cmwq_table.specs.Table.{after_all, run, table}
use Rattle.cmwq_table.proofs.RunLemmas.{after_all-append}
use Rattle.cmwq_play.specs.Commands.{Writes}
use Rattle.cmwq_play.specs.Telling.{kept_from, told_from}
use Rattle.cmwq_play.proofs.CommandLemmas.{writes_more}
use Rattle.cmwq_play.proofs.TellingLemmas.{kept_from-append, told_from-append}
use Rattle.cmwq_streams.specs.declared.error.PlayError.{PlayError}
use Rattle.cmwq_explain.specs.Changes.{changes_text, has_bytes, said_below, state_there, told_at, told_below}
use Rattle.cmwq_explain.specs.Looking.{going_on, keeping, line_here, looker_after, looker_told, looker_wholly, looks_here, run_end, saying, telling, told_here}
use Rattle.cmwq_explain.specs.declared.looker.Looker.{Looker}

or_false : (b : Bool) → b ≡ (b || false)
or_false true = refl
or_false false = refl

has_bytes-append : (xs ys : List ℕ) → has_bytes (xs ++ ys) ≡ (has_bytes xs || has_bytes ys)
has_bytes-append [] ys = refl
has_bytes-append (x ∷ xs) ys = refl

-- a look, by whether it is looked
after_look : {P : Type 0} (b : Bool) (l : Looker P) (s : State) (said : Option (List ℕ))
    → (if b then saying l s said else l) ≡ record l { said = if b then said else l.said; has_told = l.has_told || has_bytes (if b then line_here l s said else []) }
after_look true l s said = refl
after_look false l s said = ap (λ (told : Bool). record l { has_told = told }) (or_false l.has_told)

-- The looker begins with the first position, before anything is said.
module _ {P : Type 0} (says : P → ScenarioContents → Bool → State → Option (List ℕ)) (l : Looker P) (S : ScenarioContents) (instrs : List Instr) (few : length instrs ≤ MAX_HISTORY) where
  abbrev spoken : ScenarioContents → Bool → State → Option (List ℕ)
  spoken = says l.sayer.now

  abbrev there : ℕ → State
  there k = state_there spoken l.looks S instrs k

  abbrev looker_at : ℕ → Looker P
  looker_at k = record l { position = k; said = said_below spoken l.looks S instrs k; has_told = has_bytes (told_below spoken l.looks S instrs k) }

  -- after a look at a position, the last one or not
  look_at : (is_last : Bool) (k : ℕ) → (k == length instrs) ≡ is_last
      → looker_after says (looker_at k) S is_last (there k) ≡ record l { position = k; said = said_below spoken l.looks S instrs (suc k); has_told = has_bytes (told_below spoken l.looks S instrs (suc k)) }
  look_at is_last k last =
      let c = looker_at k in
      let s = there k in
      let here : Bool → List ℕ = λ at_end. if looks_here c S at_end s then line_here c s (spoken S at_end s) else [] in
      after_look (looks_here c S is_last s) c s (spoken S is_last s)
      ∙ ap (λ (at_end : Bool). record l { position = k; said = if looks_here c S at_end s then spoken S at_end s else c.said; has_told = c.has_told || has_bytes (here at_end) }) (sym last)
      ∙ ap (λ (told : Bool). record l { position = k; said = said_below spoken l.looks S instrs (suc k); has_told = told }) (sym (has_bytes-append (told_below spoken l.looks S instrs k) (told_at spoken l.looks S instrs k)))

  told_there : (is_last : Bool) (k : ℕ) → (k == length instrs) ≡ is_last → told_here says (looker_at k) S is_last (there k) ≡ told_at spoken l.looks S instrs k
  told_there is_last k last = ap (λ (at_end : Bool). told_here says (looker_at k) S at_end (there k)) (sym last)

  next_state : (k : ℕ) → k < length instrs → (table S (there k) (slice_index_or instrs k Next)).0 ≡ there (suc k)
  next_state k within =
      let more : k + 1 ≡ suc k = omega arith in
      sym (after_all-append S (start S) (take k instrs) (slice_index_or instrs k Next ∷ []))
      ∙ ap (λ (is : List Instr). after_all S (start S) is) (sym (take_more instrs k Next within))
      ∙ ap (λ (n : ℕ). there n) more

  next_looker : (k : ℕ) → k < length instrs → going_on (looker_after says (looker_at k) S false (there k)) ≡ looker_at (suc k)
  next_looker k within =
      let other : (k == length instrs) ≡ false = ne_eqb k (length instrs) (λ same. absurd (omega (arith, same, within))) in
      let more : min (k + 1) (2 ^ 64 - 1) ≡ suc k = omega (arith, within, few) in
      ap (λ (c : Looker P). going_on c) (look_at false k other)
      ∙ ap (λ (n : ℕ). record l { position = n; said = said_below spoken l.looks S instrs (suc k); has_told = has_bytes (told_below spoken l.looks S instrs (suc k)) }) more

  take_next : (k : ℕ) → k < length instrs → take (suc k) instrs ≡ take k instrs ++ slice_index_or instrs k Next ∷ []
  take_next k within =
      let more : suc k ≡ k + 1 = omega arith in
      ap (λ (n : ℕ). take n instrs) more ∙ take_more instrs k Next within

  abbrev kept_to : ℕ → Looker P
  kept_to k = kept_from (telling says) (keeping says) (looker_at 0) S (start S) (take k instrs)

  looker_to : (k : ℕ) → k ≤ length instrs → kept_to k ≡ looker_at k
  looker_to zero within = refl
  looker_to (suc k) within =
      let i = slice_index_or instrs k Next in
      let low : k < length instrs = omega arith in
      ap (λ (is : List Instr). kept_from (telling says) (keeping says) (looker_at 0) S (start S) is) (take_next k low)
      ∙ kept_from-append (telling says) (keeping says) S (looker_at 0) (start S) (take k instrs) (i ∷ [])
      ∙ ap (λ (c : Looker P). kept_from (telling says) (keeping says) c S (there k) (i ∷ [])) (looker_to k (omega arith))
      ∙ next_looker k low

  text_to : (k : ℕ) → k ≤ length instrs → told_from (telling says) (keeping says) (looker_at 0) S (start S) (take k instrs) ≡ told_below spoken l.looks S instrs k
  text_to zero within = refl
  text_to (suc k) within =
      let i = slice_index_or instrs k Next in
      let low : k < length instrs = omega arith in
      let other : (k == length instrs) ≡ false = ne_eqb k (length instrs) (λ same. absurd (omega (arith, same, low))) in
      let before = told_below spoken l.looks S instrs k in
      ap (λ (is : List Instr). told_from (telling says) (keeping says) (looker_at 0) S (start S) is) (take_next k low)
      ∙ told_from-append (telling says) (keeping says) S (looker_at 0) (start S) (take k instrs) (i ∷ [])
      ∙ ap (λ (text : List ℕ). text ++ told_from (telling says) (keeping says) (kept_to k) S (there k) (i ∷ [])) (text_to k (omega arith))
      ∙ ap (λ (c : Looker P). before ++ told_from (telling says) (keeping says) c S (there k) (i ∷ [])) (looker_to k (omega arith))
      ∙ ap (λ (text : List ℕ). before ++ text) (append-nil (told_here says (looker_at k) S false (there k)) ∙ told_there false k other)

  last : (length instrs == length instrs) ≡ true
  last = eq-eqb (length instrs) (length instrs) refl

  all : take (length instrs) instrs ≡ instrs
  all = take_all (length instrs) instrs (omega arith)

  whole_looker : kept_from (telling says) (keeping says) (looker_at 0) S (start S) instrs ≡ looker_at (length instrs)
  whole_looker = ap (λ (is : List Instr). kept_from (telling says) (keeping says) (looker_at 0) S (start S) is) (sym all) ∙ looker_to (length instrs) (omega arith)

  whole_state : after_all S (start S) instrs ≡ there (length instrs)
  whole_state = ap (λ (is : List Instr). after_all S (start S) is) (sym all)

  -- All of it is the text of the changes, and it is known whether that has any bytes.
  whole_text : looker_told says (looker_at 0) S (start S) instrs ≡ changes_text spoken l.looks S instrs
  whole_text =
      let n = length instrs in
      ap (λ (text : List ℕ). text ++ told_here says (kept_from (telling says) (keeping says) (looker_at 0) S (start S) instrs) S true (after_all S (start S) instrs))
      (ap (λ (is : List Instr). told_from (telling says) (keeping says) (looker_at 0) S (start S) is) (sym all) ∙ text_to n (omega arith))
      ∙ ap (λ (c : Looker P). told_below spoken l.looks S instrs n ++ told_here says c S true (after_all S (start S) instrs)) whole_looker
      ∙ ap (λ (s : State). told_below spoken l.looks S instrs n ++ told_here says (looker_at n) S true s) whole_state
      ∙ ap (λ (text : List ℕ). told_below spoken l.looks S instrs n ++ text) (told_there true n last)

  whole_end : run_end (looker_wholly says (looker_at 0) S (start S) instrs) (run S instrs)
      ≡ record { position = length instrs; time = (run S instrs).time; has_told = has_bytes (changes_text spoken l.looks S instrs) }
  whole_end =
      ap (λ (c : Looker P). run_end (looker_after says c S true (run S instrs)) (run S instrs)) whole_looker
      ∙ ap (λ (s : State). run_end (looker_after says (looker_at (length instrs)) S true s) (run S instrs)) whole_state
      ∙ ap (λ (c : Looker P). run_end c (run S instrs)) (look_at true (length instrs) last)

-- What is written of a run from the start on, and what is answered.
module _ {P : Type 0} (says : P → ScenarioContents → Bool → State → Option (List ℕ)) (l : Looker P) (S T : ScenarioContents) (issued instrs : List Instr) (held : T ≡ S) (same : issued ≡ instrs) (few : length instrs ≤ MAX_HISTORY) where
  abbrev begun : Looker P
  begun = record l { position = 0; said = None; has_told = false }

  text_is : looker_told says begun T (start T) issued ≡ changes_text (says l.sayer.now) l.looks S instrs
  text_is =
      ap (λ (X : ScenarioContents). looker_told says begun X (start X) issued) held
      ∙ ap (λ (is : List Instr). looker_told says begun S (start S) is) same
      ∙ whole_text says l S instrs few

  pub end_is : run_end (looker_wholly says begun T (start T) issued) (run T issued)
      ≡ record { position = length instrs; time = (run S instrs).time; has_told = has_bytes (changes_text (says l.sayer.now) l.looks S instrs) }
  end_is =
      ap (λ (X : ScenarioContents). run_end (looker_wholly says begun X (start X) issued) (run X issued)) held
      ∙ ap (λ (is : List Instr). run_end (looker_wholly says begun S (start S) is) (run S is)) same
      ∙ whole_end says l S instrs few

  pub writes_whole : (before after : Option (List ℕ)) (failed : Bool) (r : Result (Unit {0}) PlayError) → Writes (λ output. output ≡ looker_told says begun T (start T) issued) before after failed r
      → Writes (λ output. output ≡ changes_text (says l.sayer.now) l.looks S instrs) before after failed r
  writes_whole before after failed r h =
      writes_more (λ output. output ≡ looker_told says begun T (start T) issued) (λ output. output ≡ changes_text (says l.sayer.now) l.looks S instrs) before after failed r (λ output is. is ∙ text_is) h
