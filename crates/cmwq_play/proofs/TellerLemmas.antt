-- What a teller cites of a session.
use Rattle.std.proofs.Common.{◌≡◌, ◌↔◌, ℕ, List, [], ◌++◌, Bool, true, false, Option, Result, Ok, Err, IfErr, OnErr, OnOk, ap, refl, sym, ◌∙◌, subst}
use Rattle.std.specs.Io.KnownBytes.{Appends}
use Rattle.cmwq_types.specs.Contents.{ScenarioContents}
use Rattle.cmwq_table.specs.State.{State}
use Rattle.cmwq_streams.specs.Blocks.{Sends, SendsFront, SharesSink, kept, sink}
use Rattle.cmwq_streams.specs.Sending.{IsSendError}
use Rattle.cmwq_streams.specs.declared.block_writer.BlockWriter.{BlockWriter}
use Rattle.cmwq_streams.specs.declared.error.PlayError.{PlayError}
use Rattle.cmwq_streams.specs.declared.error.PlayError.TheVariants.{NoMemory, Write}
use Rattle.cmwq_streams.proofs.CallerLemmas.{appends_none}
use Rattle.cmwq_play.specs.Session.{Issues, Stopped}
use Rattle.cmwq_play.specs.declared.session.Session.{Session}
use Rattle.cmwq_play.proofs.CommandLemmas.{err_is}

pub sound_then : (v : Bool) (r : Result (Unit {0}) PlayError) → r ≡ Ok tt → (r ≡ Err Write) ↔ (v ≡ true) → v ≡ false
sound_then true r is write = let wrong = sym is ∙ write.1 refl in cc
sound_then false r is write = refl

module _ {M W : Type 0} (loaded : M → ScenarioContents) (state : M → State) (contents : W → Option (List ℕ)) (failed : W → Bool) (old new : Session M W) where
  -- memory ran out before anything was written
  pub stopped_at_once : (text : List ℕ) (error : PlayError) → failed (sink old.lines) ≡ false → new.lines ≡ old.lines → error ≡ NoMemory → Stopped loaded state contents failed old new text error
  stopped_at_once text error sound same is = record {
    same = ap (λ (lines : BlockWriter W). lines.writer.ghost_name) same;
    sent = (
      [],
      kept old.lines ++ text,
      subst (λ (lines : BlockWriter W). Appends (contents (sink old.lines)) (contents (sink lines)) []) (sym same) (appends_none (contents (sink old.lines))),
      refl,
    );
    write = (λ write. let wrong = sym is ∙ write in cc, λ broken. let wrong = sym sound ∙ ap (λ (lines : BlockWriter W). failed (sink lines)) (sym same) ∙ broken in cc);
    why = subst IsSendError (sym is) tt;
  }

  -- an instruction was issued, and what is told of it was written at once
  pub wrote_once : (to : State) (written text : List ℕ) (r : Result (Unit {0}) PlayError) → loaded new.machine ≡ new.scenario.now → new.replies ≡ new.scenario.now → new.scenario.now ≡ old.scenario.now → state new.machine ≡ to → written ≡ text → SharesSink old.lines new.lines
      → OnOk r (Sends contents old.lines new.lines written) → OnErr r (SendsFront contents old.lines new.lines written) → (r ≡ Err Write) ↔ (failed (sink new.lines) ≡ true) → IfErr r (λ error. IsSendError error)
      → Issues loaded state contents failed old new to text r
  wrote_once to written text (Ok tt) has lines scenario reached is same all front write why = record {
    ready = record { has_scenario = has; has_lines = lines; is_sound = sound_then (failed (sink new.lines)) (Ok tt) refl write };
    scenario = scenario;
    same = same;
    reached = reached;
    sent = subst (λ (lines : List ℕ). Sends contents old.lines new.lines lines) is all;
  }
  wrote_once to written text (Err error) has lines scenario reached is same all front write why = record {
    same = same;
    sent = subst (λ (lines : List ℕ). SendsFront contents old.lines new.lines lines) is front;
    write = (λ e. write.0 (ap Err e), λ broken. err_is {A = Unit {0}} error Write (Err error) refl (write.1 broken));
    why = why;
  }
