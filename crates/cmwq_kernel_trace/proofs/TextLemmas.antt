-- A run whose events are kept, and told at its end.
use Rattle.std.proofs.Common.{◌≡◌, ℕ, List, [], ◌∷◌, ◌++◌, length, None, refl, sym, ap, ◌∙◌, subst, append-nil, append_assoc}
use Rattle.std.proofs.lemmas.List.{length-replicate}
use Rattle.cmwq_types.specs.Contents.{ScenarioContents}
use Rattle.cmwq_types.specs.declared.instr.Instr.{Instr}
use Rattle.cmwq_types.specs.declared.reply.Reply.{Reply}
use Rattle.cmwq_table.specs.State.{State, start}
use Rattle.cmwq_table.specs.Table.{table}
use Rattle.cmwq_events.specs.Followed.{Followed, LeadsTo, followed_on, none_followed}
use Rattle.cmwq_events.specs.KernelEvents.{instr_events, kernel_events_from}
use Rattle.cmwq_events.specs.declared.kernel_event.KernelEvent.{KernelEvent}
use Rattle.cmwq_events.proofs.CallerLemmas.{running-length}
use Rattle.cmwq_play.specs.Telling.{kept_from, told_from}
use Rattle.cmwq_play.specs.Framing.{framed_text}
use Rattle.cmwq_kernel_trace.specs.KernelText.{events_text}
use Rattle.cmwq_kernel_trace.specs.TextParts.{FitsText, keeps_text}
use Rattle.cmwq_kernel_trace.specs.declared.text_trace.TextTeller.{TextTeller}

-- Along a run.

told-none : (teller : TextTeller) (S : ScenarioContents) (s : State) (instrs : List Instr)
    → told_from (λ (teller : TextTeller) S s instr. []) (λ teller S s instr. keeps_text teller S s instr (table S s instr)) teller S s instrs ≡ []
told-none teller S s [] = refl
told-none teller S s (i ∷ is) = told-none (keeps_text teller S s i (table S s i)) S (table S s i).0 is

events-kept : (teller : TextTeller) (S : ScenarioContents) (s : State) (instrs : List Instr)
    → (kept_from (λ (teller : TextTeller) S s instr. []) (λ teller S s instr. keeps_text teller S s instr (table S s instr)) teller S s instrs).events.events
    ≡ teller.events.events ++ kernel_events_from S s instrs
events-kept teller S s [] = sym (append-nil teller.events.events)
events-kept teller S s (i ∷ is) =
    events-kept (keeps_text teller S s i (table S s i)) S (table S s i).0 is
    ∙ append_assoc teller.events.events (instr_events S s i (table S s i)) (kernel_events_from S (table S s i).0 is)

framed-events : (teller : TextTeller) (S : ScenarioContents) (s : State) (instrs : List Instr)
    → framed_text (λ (teller : TextTeller) S s instr. []) (λ teller S s instr. keeps_text teller S s instr (table S s instr)) (λ teller S. [])
    (λ teller S s. events_text S teller.events.events) teller S s instrs
    ≡ events_text S (teller.events.events ++ kernel_events_from S s instrs)
framed-events teller S s instrs =
    let kept = kept_from (λ (teller : TextTeller) S s instr. []) (λ teller S s instr. keeps_text teller S s instr (table S s instr)) teller S s instrs in
    ap (λ (told : List ℕ). told ++ events_text S kept.events.events) (told-none teller S s instrs)
    ∙ ap (λ (events : List KernelEvent). events_text S events) (events-kept teller S s instrs)

-- at the start there are no events
pub begun-fits : (S : ScenarioContents) (teller : TextTeller) → teller.events ≡ none_followed (length S.works) → FitsText teller (start S)
begun-fits S teller is = record {
  leads = subst (λ (e : Followed). LeadsTo e (start S)) (sym is) (record { next = refl; pending = refl; running = refl });
  long = length-replicate (length S.works) None ∙ sym (length-replicate (length S.works) None);
}

pub framed-begun : (teller : TextTeller) (S : ScenarioContents) (instrs : List Instr) → teller.events ≡ none_followed (length S.works)
    → framed_text (λ (teller : TextTeller) S s instr. []) (λ teller S s instr. keeps_text teller S s instr (table S s instr)) (λ teller S. [])
    (λ teller S s. events_text S teller.events.events) teller S (start S) instrs
    ≡ events_text S (kernel_events_from S (start S) instrs)
framed-begun teller S instrs is =
    framed-events teller S (start S) instrs ∙ ap (λ (e : Followed). events_text S (e.events ++ kernel_events_from S (start S) instrs)) is

-- One instruction.

module _ (teller : TextTeller) (L : ScenarioContents) (s t : State) (x : Instr) (reply : Reply) (exact : (t, reply) ≡ table L s x) where
  -- the works that may run stay as many
  pub long-then : length s.running ≡ length s.pending → length t.running ≡ length s.pending
  long-then long = ap (λ (after : State × Reply). length after.0.running) exact ∙ running-length L s x ∙ long

  pub fits-then : (events : Followed) → events ≡ followed_on L s x (t, reply) teller.events → length t.running ≡ length t.pending → FitsText (record teller { events = events }) t
  fits-then events is long = record {
    leads = subst (λ (e : Followed). LeadsTo e t) (sym is) (record { next = refl; pending = refl; running = refl });
    long = long;
  }
