-- One entry more keeps an engine sound.
use Rattle.std.proofs.Common.{◌≡◌, ℕ, ◌<◌, List, [], ◌∷◌, ◌++◌, All, length, sym, ap, subst, ◌∙◌, arith, length-append}
use Rattle.std.proofs.lemmas.List.{map-append}
use Rattle.std.proofs.lemmas.List.Quantifiers.{all_pairs_push}
use Rattle.cmwq_types.specs.Contents.{ScenarioContents}
use Rattle.cmwq_types.specs.declared.instr.Instr.{Instr}
use Rattle.cmwq_types.specs.declared.reply.Reply.{Reply}
use Rattle.cmwq_table.proofs.RunLemmas.{after_all-append, replies_from-append}
use Rattle.cmwq_table.specs.State.{State, start}
use Rattle.cmwq_table.specs.Table.{after_all, replies_from, table}
use Rattle.cmwq_engine.specs.Engine.{Contents, IsSound, contents_of, entered, engine_reply}
use Rattle.cmwq_engine.specs.History.{instrs_of, replies_of}
use Rattle.cmwq_engine.specs.declared.history.Entry.{Entry}

module _ (e : Contents) (new : Entry) (sound : IsSound e) where
  abbrev S : ScenarioContents
  S = e.setting.scenario

  abbrev before : List Instr
  before = instrs_of e.history

  instrs_more : instrs_of (e.history ++ new ∷ []) ≡ before ++ new.instr ∷ []
  instrs_more = map-append (λ (f : Entry). f.instr) e.history (new ∷ [])

  reached_more : (table S e.state new.instr).0 ≡ after_all S (start S) (instrs_of (e.history ++ new ∷ []))
  reached_more =
      ap (λ (s : State). (table S s new.instr).0) sound.reached
      ∙ sym (after_all-append S (start S) before (new.instr ∷ []))
      ∙ ap (after_all S (start S)) (sym instrs_more)

  answered_more : new.reply ≡ engine_reply e new.instr → replies_of (e.history ++ new ∷ []) ≡ replies_from S (start S) (instrs_of (e.history ++ new ∷ []))
  answered_more answers =
      map-append (λ (f : Entry). f.reply) e.history (new ∷ [])
      ∙ ap (λ (rs : List Reply). rs ++ new.reply ∷ []) sound.legal.answered
      ∙ ap (λ (r : Reply). replies_from S (start S) before ++ r ∷ []) (answers ∙ ap (λ (s : State). (table S s new.instr).1) sound.reached)
      ∙ sym (replies_from-append S (start S) before (new.instr ∷ []))
      ∙ ap (replies_from S (start S)) (sym instrs_more)

  sound_entered : All (λ (f : Entry). f.ticket < new.ticket) e.history → length e.history < e.setting.capacity → new.reply ≡ engine_reply e new.instr → IsSound (entered e new)
  sound_entered later room answers = record {
    valid = sound.valid;
    legal = record {
      bounded = let count = length-append e.history (new ∷ []) in omega arith;
      rising = all_pairs_push (λ (f g : Entry). f.ticket < g.ticket) e.history new sound.legal.rising later;
      answered = answered_more answers;
    };
    reached = reached_more;
  }

-- the machine has carried out an instruction, and its entry stands behind the history
pub sound_issued : (S S' : ScenarioContents) (capacity : ℕ) (s s' : State) (history history' : List Entry) (new : Entry)
    → IsSound (contents_of S capacity s history) → All (λ (f : Entry). f.ticket < new.ticket) history → length history < capacity
    → S' ≡ S → (s', new.reply) ≡ table S s new.instr → history' ≡ history ++ new ∷ [] → IsSound (contents_of S' capacity s' history')
sound_issued S S' capacity s s' history history' new sound later room same step more =
    let e = contents_of S capacity s history in
    let longer = history ++ new ∷ [] in
    let is =
    ap (λ (T : ScenarioContents). contents_of T capacity (table S s new.instr).0 longer) (sym same)
    ∙ ap (λ (t : State). contents_of S' capacity t longer) (sym (ap (λ (after : State × Reply). after.0) step))
    ∙ ap (contents_of S' capacity s') (sym more)
    in
    subst IsSound is (sound_entered e new sound later room (ap (λ (after : State × Reply). after.1) step))
