-- The lines of an instruction that is issued several times.
use Rattle.std.proofs.Common.{◌≡◌, ℕ, zero, suc, ◌+◌, ◌-◌, ◌<◌, ◌≤◌, List, [], ◌∷◌, ◌++◌, Bool, true, Option, refl, sym, ap, ◌∙◌, subst, arith, append_assoc, replicate}
use Rattle.std.specs.Borrow.{Bor}
use Rattle.cmwq_types.specs.Contents.{ScenarioContents}
use Rattle.cmwq_types.specs.declared.instr.Instr.{Instr}
use Rattle.cmwq_types.specs.declared.instr.Instr.TheVariants.{Next}
use Rattle.cmwq_types.specs.declared.reply.Reply.{Reply}
use Rattle.cmwq_runs.proofs.LineLemmas.{replicate_add, replicate_rest}
use Rattle.cmwq_table.specs.Events.{events_from, is_silent, reply_line, told}
use Rattle.cmwq_table.specs.Repeats.{HasGone, HasRepeated, after_times, reply_behind}
use Rattle.cmwq_table.specs.State.{State}
use Rattle.cmwq_table.specs.Table.{after_all, table}
use Rattle.cmwq_table.proofs.TimesLemmas.{after_times-last}
use Rattle.cmwq_streams.specs.Blocks.{Sends, SendsFront, SharesSink, kept, sink}
use Rattle.cmwq_streams.specs.Sending.{HasSent}
use Rattle.cmwq_streams.specs.declared.block_writer.BlockWriter.{BlockWriter}
use Rattle.cmwq_streams.specs.declared.error.PlayError.{PlayError}
use Rattle.cmwq_streams.proofs.CallerLemmas.{appends_none, front_more}
use Rattle.cmwq_play.specs.Repeating.{HasTold}
use Rattle.cmwq_lines.specs.Putting.{repeated}
use Rattle.cmwq_play.specs.Session.{CanIssue, Issued, Stopped}
use Rattle.cmwq_play.specs.Telling.{kept_from}
use Rattle.cmwq_play.specs.declared.replies.Replies.{Replies}
use Rattle.cmwq_play.specs.declared.session.Session.{Session}

-- the teller of replies keeps nothing
abbrev pub replies : Replies
replies = record {}

-- what the teller of replies tells and keeps
abbrev pub telling : Replies → ScenarioContents → State → Instr → List ℕ
telling replies S s instr = told S instr (table S s instr)

abbrev pub keeping : Replies → ScenarioContents → State → Instr → Replies
keeping replies S s instr = replies

pub kept-same : (replies : Replies) (S : ScenarioContents) (s : State) (instrs : List Instr) → kept_from telling keeping replies S s instrs ≡ replies
kept-same replies S s [] = refl
kept-same replies S s (instr ∷ instrs) = kept-same replies S (table S s instr).0 instrs

pub events_from-append : (S : ScenarioContents) (s : State) (xs ys : List Instr) → events_from S s (xs ++ ys) ≡ events_from S s xs ++ events_from S (after_all S s xs) ys
events_from-append S s [] ys = refl
events_from-append S s (x ∷ xs) ys =
    let first = told S x (table S s x) in
    let after = (table S s x).0 in
    ap (λ (more : List ℕ). first ++ more) (events_from-append S after xs ys) ∙ sym (append_assoc first (events_from S after xs) (events_from S (after_all S after xs) ys))

-- of more than so often a front is what is told of so often
pub events_from-front : (S : ScenarioContents) (s : State) (i : Instr) (count most : ℕ) → count ≤ most
    → events_from S s (replicate most i) ≡ events_from S s (replicate count i) ++ events_from S (after_times S s i count) (replicate (most - count) i)
events_from-front S s i count most few =
    ap (events_from S s) (replicate_rest count most i few) ∙ events_from-append S s (replicate count i) (replicate (most - count) i)

silent-line : (S : ScenarioContents) (now : ℕ) (i : Instr) (r : Reply) → is_silent r ≡ true → reply_line S now i r ≡ []
unfolding reply_line
silent-line S now i r quiet = rw quiet refl

silent-events : (S : ScenarioContents) (s : State) (i : Instr) (count : ℕ) → ((k : ℕ) → k < count → is_silent (reply_behind S s i k) ≡ true)
    → events_from S s (replicate count i) ≡ []
silent-events S s i zero quiet = refl
silent-events S s i (suc count) quiet =
    let after = (table S s i).0 in
    ap (λ (line : List ℕ). line ++ events_from S after (replicate count i)) (silent-line S after.time i (table S s i).1 (quiet 0 (omega arith)))
    ∙ silent-events S after i count (λ k below. quiet (suc k) (omega arith))

-- of those that went on without a line to one that may have one, that is the whole
pub gone-events : (S : ScenarioContents) (s after : State) (most count : ℕ) (r : Reply) → HasGone S s most count after r
    → events_from S s (replicate count Next) ≡ repeated (reply_line S after.time Next r) 1
gone-events S s after most count r gone =
    let some = gone.some in
    let before = after_times S s Next (count - 1) in
    let one : (count - 1) + 1 ≡ count = omega arith in
    let last : suc (count - 1) ≡ count = omega arith in
    let state : after ≡ (table S before Next).0 = gone.state ∙ ap (after_times S s Next) (sym last) ∙ after_times-last S Next (count - 1) s in
    ap (λ (n : ℕ). events_from S s (replicate n Next)) (sym one)
    ∙ ap (events_from S s) (replicate_add (count - 1) 1 Next)
    ∙ events_from-append S s (replicate (count - 1) Next) (Next ∷ [])
    ∙ ap (λ (front : List ℕ). front ++ events_from S before (Next ∷ [])) (silent-events S s Next (count - 1) (λ k below. gone.silent k (omega arith)))
    ∙ ap (λ (t : State). reply_line S t.time Next (table S before Next).1 ++ []) (sym state)
    ∙ ap (λ (q : Reply). reply_line S after.time Next q ++ []) (sym gone.last)

same-events : (S : ScenarioContents) (s : State) (i : Instr) (r : Reply) (time count : ℕ)
    → ((k : ℕ) → k < count → reply_behind S s i k ≡ r) → ((k : ℕ) → k ≤ count → (after_times S s i k).time ≡ time)
    → events_from S s (replicate count i) ≡ repeated (reply_line S time i r) count
same-events S s i r time zero replies times = refl
same-events S s i r time (suc count) replies times =
    let after = (table S s i).0 in
    ap (λ (q : Reply). reply_line S after.time i q ++ events_from S after (replicate count i)) (replies 0 (omega arith))
    ∙ ap (λ (t : ℕ). reply_line S t i r ++ events_from S after (replicate count i)) (times 1 (omega arith))
    ∙ ap (λ (rest : List ℕ). reply_line S time i r ++ rest)
    (same-events S after i r time count (λ k below. replies (suc k) (omega arith)) (λ k within. times (suc k) (omega arith)))

-- of an instruction that came out the same so many times more, the same line once more
module _ (S : ScenarioContents) (s once after : State) (i : Instr) (r : Reply) (most more : ℕ) (is : (once, r) ≡ table S s i) (again : HasRepeated S once i r most more after) where
  state-once : (table S s i).0 ≡ once
  state-once = sym (ap (λ (p : State × Reply). p.0) is)

  place : suc more ≡ 1 + more
  place = omega arith

  pub repeated-reached : after ≡ after_times S s i (1 + more)
  repeated-reached = again.state ∙ ap (λ (t : State). after_times S t i more) (sym state-once) ∙ ap (after_times S s i) place

  pub repeated-events : events_from S s (replicate (1 + more) i) ≡ repeated (reply_line S after.time i r) (1 + more)
  repeated-events =
      let reply : (table S s i).1 ≡ r = sym (ap (λ (p : State × Reply). p.1) is) in
      let time : after.time ≡ once.time = ap (λ (t : State). t.time) again.state ∙ again.time more (omega arith) in
      ap (λ (n : ℕ). events_from S s (replicate n i)) (sym place)
      ∙ ap (λ (t : State). reply_line S t.time i (table S s i).1 ++ events_from S t (replicate more i)) state-once
      ∙ ap (λ (q : Reply). reply_line S once.time i q ++ events_from S once (replicate more i)) reply
      ∙ ap (λ (rest : List ℕ). reply_line S once.time i r ++ rest)
      (same-events S once i r once.time more again.replies again.time)
      ∙ ap (λ (t : ℕ). repeated (reply_line S t i r) (suc more)) (sym time)
      ∙ ap (repeated (reply_line S after.time i r)) place

-- What a session has told that issued an instruction several times at once: the machine first, and then it wrote the lines.
module _ {M W : Type 0} (loaded : M → ScenarioContents) (state : M → State) (contents : W → Option (List ℕ)) (failed : W → Bool) (old : Session M W) (machine : M)
    (instr : Instr) (most count : ℕ) (text : List ℕ) (few : count ≤ most)
    (reached : state machine ≡ after_times old.scenario.now (state old.machine) instr count)
    (lines : events_from old.scenario.now (state old.machine) (replicate count instr) ≡ text) where
  abbrev mid : Session M W
  mid = record old { machine = machine }

  pub batch-told : (new : Session M W) → 0 < count → Issued loaded state contents failed mid new (state machine) text
      → HasTold loaded state contents failed old new instr most count
  batch-told new some issued = record {
    some = some;
    few = few;
    issued = record {
      ready = issued.ready;
      scenario = issued.scenario;
      same = issued.same;
      reached = issued.reached ∙ reached;
      sent = subst (λ (written : List ℕ). Sends contents old.lines new.lines written) (sym lines) issued.sent;
    };
  }

  pub batch-stopped : (new : Session M W) (error : PlayError) → Stopped loaded state contents failed mid new text error
      → Stopped loaded state contents failed old new (events_from old.scenario.now (state old.machine) (replicate most instr)) error
  batch-stopped new error stopped =
      let S = old.scenario.now in
      let s = state old.machine in
      let rest = events_from S (after_times S s instr count) (replicate (most - count) instr) in
      let whole : text ++ rest ≡ events_from S s (replicate most instr) =
      ap (λ (front : List ℕ). front ++ rest) (sym lines) ∙ sym (events_from-front S s instr count most few)
      in
      record {
        same = stopped.same;
        sent =
            subst (λ (written : List ℕ). SendsFront contents old.lines new.lines written) whole
            (front_more (contents (sink old.lines)) (contents (sink new.lines)) (kept old.lines) text rest stopped.sent);
        write = stopped.write;
        why = stopped.why;
      }

-- A session whose machine is this and that only kept a text back has written it.
module _ {M W : Type 0} (loaded : M → ScenarioContents) (state : M → State) (contents : W → Option (List ℕ)) (failed : W → Bool) where
  pub keeps-text : (old new : Session M W) (text : List ℕ) → CanIssue loaded state contents failed old → new.scenario ≡ old.scenario → new.machine ≡ old.machine → new.replies ≡ old.replies
      → SharesSink old.lines new.lines → sink new.lines ≡ sink old.lines → kept new.lines ≡ kept old.lines ++ text → Issued loaded state contents failed old new (state old.machine) text
  keeps-text old new text ready scenario machine replies shares same line = record {
    ready = record {
      has_scenario = ap loaded machine ∙ ready.has_scenario ∙ ap (λ (S : Bor ScenarioContents). S.now) (sym scenario);
      has_lines = replies ∙ ready.has_lines ∙ ap (λ (S : Bor ScenarioContents). S.now) (sym scenario);
      is_sound = ap failed same ∙ ready.is_sound;
    };
    scenario = ap (λ (S : Bor ScenarioContents). S.now) scenario;
    same = shares;
    reached = ap state machine;
    sent = subst (λ (w : W). HasSent (contents (sink old.lines)) (contents w) (kept new.lines) (kept old.lines ++ text)) (sym same) ([], appends_none (contents (sink old.lines)), line);
  }

  -- where nothing was kept back before it wrote
  pub same-before : (mid : Session M W) (replies : ScenarioContents) (lines : BlockWriter W) (new : Session M W) (to : State) (text : List ℕ) → replies ≡ mid.replies → lines ≡ mid.lines
      → Issued loaded state contents failed (record mid { replies = replies; lines = lines }) new to text → Issued loaded state contents failed mid new to text
  same-before mid replies lines new to text one other issued =
      subst (λ (L : BlockWriter W). Issued loaded state contents failed (record mid { lines = L }) new to text) other
      (subst (λ (R : ScenarioContents). Issued loaded state contents failed (record mid { replies = R; lines = lines }) new to text) one issued)

  pub same-stopped : (mid : Session M W) (replies : ScenarioContents) (lines : BlockWriter W) (new : Session M W) (text : List ℕ) (error : PlayError) → replies ≡ mid.replies → lines ≡ mid.lines
      → Stopped loaded state contents failed (record mid { replies = replies; lines = lines }) new text error → Stopped loaded state contents failed mid new text error
  same-stopped mid replies lines new text error one other stopped =
      subst (λ (L : BlockWriter W). Stopped loaded state contents failed (record mid { lines = L }) new text error) other
      (subst (λ (R : ScenarioContents). Stopped loaded state contents failed (record mid { replies = R; lines = lines }) new text error) one stopped)
