-- Instructions that a session issues one after another.
use Rattle.std.proofs.Common.{◌≡◌, ℕ, List, [], ◌∷◌, ◌++◌, Bool, Option, refl, sym, ap, ◌∙◌, subst, append_assoc, append-nil}
use Rattle.cmwq_types.specs.Contents.{ScenarioContents}
use Rattle.cmwq_types.specs.declared.instr.Instr.{Instr}
use Rattle.cmwq_table.specs.State.{State}
use Rattle.cmwq_table.specs.Table.{after_all, table}
use Rattle.cmwq_table.proofs.RunLemmas.{after_all-append}
use Rattle.cmwq_streams.specs.Blocks.{Sends, SendsFront, SharesSink, kept, sink}
use Rattle.cmwq_streams.specs.declared.error.PlayError.{PlayError}
use Rattle.cmwq_streams.proofs.CallerLemmas.{appends_none, front_more, front_then, sends_then}
use Rattle.cmwq_play.specs.Session.{CanIssue, Issued, Stopped}
use Rattle.cmwq_play.specs.Telling.{kept_from, told_from}
use Rattle.cmwq_play.specs.declared.session.Session.{Session}
use Rattle.cmwq_play.proofs.TellingLemmas.{kept_from-append, told_from-append}

module _ {M W T : Type 0} (loaded : M → ScenarioContents) (state : M → State) (contents : W → Option (List ℕ)) (failed : W → Bool)
    (told : T → ScenarioContents → State → Instr → List ℕ) (keeps : T → ScenarioContents → State → Instr → T) where
  -- Of these instructions so many are left. What was written, and what is told of the ones that are left, make the whole.
  pub record IsUnderWay (old here : Session M W) (first teller : T) (all left : List Instr) : Type 0 where
    pub ready : CanIssue loaded state contents failed here
    pub scenario : here.scenario.now ≡ old.scenario.now
    pub same : SharesSink old.lines here.lines
    pub reached : after_all old.scenario.now (state here.machine) left ≡ after_all old.scenario.now (state old.machine) all
    pub kept : kept_from told keeps teller old.scenario.now (state here.machine) left ≡ kept_from told keeps first old.scenario.now (state old.machine) all
    pub text : List ℕ
    pub sent : Sends contents old.lines here.lines text
    pub whole : text ++ told_from told keeps teller old.scenario.now (state here.machine) left ≡ told_from told keeps first old.scenario.now (state old.machine) all

  pub begins : (old : Session M W) (teller : T) (all left : List Instr) → left ≡ all → CanIssue loaded state contents failed old → IsUnderWay old old teller teller all left
  begins old teller all left is ready = record {
    ready = ready;
    scenario = refl;
    same = refl;
    reached = ap (λ (instrs : List Instr). after_all old.scenario.now (state old.machine) instrs) is;
    kept = ap (λ (instrs : List Instr). kept_from told keeps teller old.scenario.now (state old.machine) instrs) is;
    text = [];
    sent = ([], appends_none (contents (sink old.lines)), sym (append-nil (kept old.lines)));
    whole = ap (λ (instrs : List Instr). told_from told keeps teller old.scenario.now (state old.machine) instrs) is;
  }

  -- some instructions more
  module _ (old here : Session M W) (first teller : T) (all left some more : List Instr) (next : left ≡ some ++ more) (way : IsUnderWay old here first teller all left) where
    abbrev S : ScenarioContents
    S = old.scenario.now

    abbrev s : State
    s = state here.machine

    abbrev some_told : List ℕ
    some_told = told_from told keeps teller S s some

    abbrev told_behind : State → T → List ℕ
    told_behind t u = told_from told keeps u S t more

    told_some : told_from told keeps teller here.scenario.now s some ≡ some_told
    told_some = ap (λ (S : ScenarioContents). told_from told keeps teller S s some) way.scenario

    whole_behind : (way.text ++ some_told) ++ told_behind (after_all S s some) (kept_from told keeps teller S s some) ≡ told_from told keeps first S (state old.machine) all
    whole_behind =
        append_assoc way.text some_told (told_behind (after_all S s some) (kept_from told keeps teller S s some))
        ∙ ap (λ (text : List ℕ). way.text ++ text) (sym (told_from-append told keeps S teller s some more))
        ∙ ap (λ (instrs : List Instr). way.text ++ told_from told keeps teller S s instrs) (sym next)
        ∙ way.whole

    pub goes_on : (new : Session M W) (after : T)
        → Issued loaded state contents failed here new (after_all here.scenario.now s some) (told_from told keeps teller here.scenario.now s some)
        → after ≡ kept_from told keeps teller here.scenario.now s some → IsUnderWay old new first after all more
    goes_on new after issued keeping =
        let to : state new.machine ≡ after_all S s some = issued.reached ∙ ap (λ (T : ScenarioContents). after_all T s some) way.scenario in
        let kept_is : after ≡ kept_from told keeps teller S s some = keeping ∙ ap (λ (T : ScenarioContents). kept_from told keeps teller T s some) way.scenario in
        record {
          ready = issued.ready;
          scenario = issued.scenario ∙ way.scenario;
          same = issued.same ∙ way.same;
          reached =
              ap (λ (t : State). after_all S t more) to
              ∙ sym (after_all-append S s some more)
              ∙ ap (λ (instrs : List Instr). after_all S s instrs) (sym next)
              ∙ way.reached;
          kept =
              ap (λ (t : State). kept_from told keeps after S t more) to
              ∙ ap (λ (u : T). kept_from told keeps u S (after_all S s some) more) kept_is
              ∙ sym (kept_from-append told keeps S teller s some more)
              ∙ ap (λ (instrs : List Instr). kept_from told keeps teller S s instrs) (sym next)
              ∙ way.kept;
          text = way.text ++ some_told;
          sent =
              sends_then (contents (sink old.lines)) (contents (sink here.lines)) (contents (sink new.lines)) (kept old.lines) (kept here.lines) (kept new.lines) way.text some_told way.sent
              (subst (λ (text : List ℕ). Sends contents here.lines new.lines text) told_some issued.sent);
          whole =
              ap (λ (t : State). (way.text ++ some_told) ++ told_behind t after) to
              ∙ ap (λ (u : T). (way.text ++ some_told) ++ told_behind (after_all S s some) u) kept_is
              ∙ whole_behind;
        }

    pub stops : (new : Session M W) (error : PlayError) → Stopped loaded state contents failed here new (told_from told keeps teller here.scenario.now s some) error
        → Stopped loaded state contents failed old new (told_from told keeps first S (state old.machine) all) error
    stops new error stopped =
        let rest = told_behind (after_all S s some) (kept_from told keeps teller S s some) in
        let front = front_then (contents (sink old.lines)) (contents (sink here.lines)) (contents (sink new.lines)) (kept old.lines) (kept here.lines) way.text some_told way.sent
        (subst (λ (text : List ℕ). SendsFront contents here.lines new.lines text) told_some stopped.sent)
        in
        record {
          same = stopped.same ∙ way.same;
          sent =
              subst (λ (text : List ℕ). SendsFront contents old.lines new.lines text) whole_behind
              (front_more (contents (sink old.lines)) (contents (sink new.lines)) (kept old.lines) (way.text ++ some_told) rest front);
          write = stopped.write;
          why = stopped.why;
        }

  -- one instruction more
  module _ (old here : Session M W) (first teller : T) (all left : List Instr) (instr : Instr) (more : List Instr) (next : left ≡ instr ∷ more) (way : IsUnderWay old here first teller all left) where
    told_one : told teller here.scenario.now (state here.machine) instr ≡ told_from told keeps teller here.scenario.now (state here.machine) (instr ∷ [])
    told_one = sym (append-nil (told teller here.scenario.now (state here.machine) instr))

    pub goes_on-one : (new : Session M W) (after : T) → Issued loaded state contents failed here new (table here.scenario.now (state here.machine) instr).0 (told teller here.scenario.now (state here.machine) instr)
        → after ≡ keeps teller here.scenario.now (state here.machine) instr → IsUnderWay old new first after all more
    goes_on-one new after issued keeping =
        goes_on old here first teller all left (instr ∷ []) more next way new after
        (subst (Issued loaded state contents failed here new (table here.scenario.now (state here.machine) instr).0) told_one issued) keeping

    pub stops-one : (new : Session M W) (error : PlayError) → Stopped loaded state contents failed here new (told teller here.scenario.now (state here.machine) instr) error
        → Stopped loaded state contents failed old new (told_from told keeps first old.scenario.now (state old.machine) all) error
    stops-one new error stopped =
        stops old here first teller all left (instr ∷ []) more next way new error
        (subst (λ (text : List ℕ). Stopped loaded state contents failed here new text error) told_one stopped)

  -- none is left
  module _ (old here : Session M W) (first teller : T) (all left : List Instr) (none : left ≡ []) (way : IsUnderWay old here first teller all left) where
    pub ends : Issued loaded state contents failed old here (after_all old.scenario.now (state old.machine) all) (told_from told keeps first old.scenario.now (state old.machine) all)
    ends = record {
      ready = way.ready;
      scenario = way.scenario;
      same = way.same;
      reached = ap (λ (instrs : List Instr). after_all old.scenario.now (state here.machine) instrs) (sym none) ∙ way.reached;
      sent =
          subst (λ (text : List ℕ). Sends contents old.lines here.lines text)
          (sym (append-nil way.text) ∙ ap (λ (instrs : List Instr). way.text ++ told_from told keeps teller old.scenario.now (state here.machine) instrs) (sym none) ∙ way.whole) way.sent;
    }

    pub kept_at_end : teller ≡ kept_from told keeps first old.scenario.now (state old.machine) all
    kept_at_end = ap (λ (instrs : List Instr). kept_from told keeps teller old.scenario.now (state here.machine) instrs) (sym none) ∙ way.kept
