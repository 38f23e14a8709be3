-- What a clerk tells, part by part.
use Rattle.std.proofs.Common.{◌≡◌, ℕ, List, [], ◌∷◌, ◌++◌, ◌*◌, Bool, true, false, Option, Some, None, Result, Ok, Err, OnOk, refl, sym, ap, ◌∙◌}
use Rattle.std.proofs.lemmas.List.Concat.{flat_map-append}
use Rattle.cmwq_types.specs.Contents.{ScenarioContents}
use Rattle.cmwq_types.specs.Setting.{IsSetting}
use Rattle.cmwq_types.specs.declared.instr.Instr.{Instr}
use Rattle.cmwq_table.specs.State.{State, start}
use Rattle.cmwq_table.specs.Table.{run, table}
use Rattle.cmwq_streams.specs.Blocks.{kept, sink}
use Rattle.cmwq_streams.specs.declared.error.PlayError.{PlayError}
use Rattle.cmwq_streams.proofs.CallerLemmas.{front_more, front_then, sends_then}
use Rattle.cmwq_play.specs.Session.{Issued, Stopped}
use Rattle.cmwq_play.specs.Telling.{kept_from, told_from}
use Rattle.cmwq_play.specs.declared.session.Session.{Session}
use Rattle.cmwq_blame.specs.Blame.{BlameContents, blame_after, blame_from, no_blame}
use Rattle.cmwq_blame.specs.Bounds.{IsBlameWithin}
use Rattle.cmwq_blame.proofs.BoundLemmas.{after-within}
use Rattle.cmwq_ledger.specs.Books.{BooksContents, books_begun, books_from}
use Rattle.cmwq_ledger.specs.Ledger.{empty_ledger, ledger_after, lines_ending_at, lines_from}
use Rattle.cmwq_times.specs.Clerking.{IsBlameIfWithin, blame_kept, clerk_ends, clerk_keeps, clerk_tells, clerk_told}
use Rattle.cmwq_times.specs.TimesText.{blame_if, end_rows, line_row, line_rows, times_text}
use Rattle.cmwq_times.specs.declared.clerk.Clerk.{Clerk}

pub on-ok : {P : Type 0} (r : Result (Unit {0}) PlayError) → P → OnOk r P
on-ok (Ok done) holds = holds
on-ok (Err error) holds = tt

-- Parts of what is told, one after another.

module _ {M W : Type 0} (loaded : M → ScenarioContents) (state : M → State) (contents : W → Option (List ℕ)) (failed : W → Bool) (a b c : Session M W) (mid : State) (first second : List ℕ) where
  pub issued-then : (to : State) → Issued loaded state contents failed a b mid first → Issued loaded state contents failed b c to second → Issued loaded state contents failed a c to (first ++ second)
  issued-then to one two = record {
    ready = two.ready;
    scenario = two.scenario ∙ one.scenario;
    same = two.same ∙ one.same;
    reached = two.reached;
    sent = sends_then (contents (sink a.lines)) (contents (sink b.lines)) (contents (sink c.lines)) (kept a.lines) (kept b.lines) (kept c.lines) first second one.sent two.sent;
  }

  -- the writing stopped at the second part
  pub stopped-then : (error : PlayError) → Issued loaded state contents failed a b mid first → Stopped loaded state contents failed b c second error → Stopped loaded state contents failed a c (first ++ second) error
  stopped-then error one two = record {
    same = two.same ∙ one.same;
    sent = front_then (contents (sink a.lines)) (contents (sink b.lines)) (contents (sink c.lines)) (kept a.lines) (kept b.lines) first second one.sent two.sent;
    write = two.write;
    why = two.why;
  }

  -- it stopped at the first
  pub stopped-before : (error : PlayError) → Stopped loaded state contents failed a c first error → Stopped loaded state contents failed a c (first ++ second) error
  stopped-before error stopped = record {
    same = stopped.same;
    sent = front_more (contents (sink a.lines)) (contents (sink c.lines)) (kept a.lines) first second stopped.sent;
    write = stopped.write;
    why = stopped.why;
  }

-- The whole is what is told of the run.

rows-from : (clerk : Clerk) (S : ScenarioContents) (s : State) (instrs : List Instr) → told_from clerk_tells clerk_keeps clerk S s instrs ≡ line_rows clerk.asked.format S (lines_from S clerk.books.ledger s instrs)
rows-from clerk S s [] = refl
rows-from clerk S s (i ∷ is) =
    ap (λ (rest : List ℕ). line_rows clerk.asked.format S (lines_ending_at S clerk.books.ledger s i) ++ rest) (rows-from (clerk_keeps clerk S s i) S (table S s i).0 is)
    ∙ sym (flat_map-append (line_row clerk.asked.format S) (lines_ending_at S clerk.books.ledger s i) (lines_from S (ledger_after S clerk.books.ledger s i) (table S s i).0 is))

abbrev blame_kept_from : ScenarioContents → Option BlameContents → State → List Instr → Option BlameContents
blame_kept_from S o s [] = o
blame_kept_from S o s (i ∷ is) = blame_kept_from S (blame_kept S o s i) (table S s i).0 is

kept-from : (clerk : Clerk) (S : ScenarioContents) (s : State) (instrs : List Instr)
    → kept_from clerk_tells clerk_keeps clerk S s instrs ≡ record clerk { books = books_from S clerk.books s instrs; blame = blame_kept_from S clerk.blame s instrs }
kept-from clerk S s [] = refl
kept-from clerk S s (i ∷ is) = kept-from (clerk_keeps clerk S s i) S (table S s i).0 is

blame-from : (whom : Bool) (S : ScenarioContents) (B : BlameContents) (s : State) (instrs : List Instr)
    → blame_kept_from S (blame_if whom B) s instrs ≡ blame_if whom (blame_from S B s instrs)
blame-from true S B s [] = refl
blame-from false S B s [] = refl
blame-from true S B s (i ∷ is) = blame-from true S (blame_after S B s i) (table S s i).0 is
blame-from false S B s (i ∷ is) = blame-from false S (blame_after S B s i) (table S s i).0 is

pub told-is : (clerk : Clerk) (S : ScenarioContents) (instrs : List Instr) → clerk.books ≡ books_begun S → clerk.blame ≡ blame_if clerk.asked.whom (no_blame S)
    → clerk_told clerk S (start S) instrs ≡ times_text clerk.asked S instrs
told-is clerk S instrs begun blame =
    let f = clerk.asked.format in
    let counts = blame_kept_from S clerk.blame (start S) instrs in
    ap (λ (rows : List ℕ). rows ++ clerk_ends (kept_from clerk_tells clerk_keeps clerk S (start S) instrs) S (run S instrs)) (rows-from clerk S (start S) instrs)
    ∙ ap (λ (k : Clerk). line_rows f S (lines_from S clerk.books.ledger (start S) instrs) ++ clerk_ends k S (run S instrs)) (kept-from clerk S (start S) instrs)
    ∙ ap (λ (B : BooksContents). line_rows f S (lines_from S B.ledger (start S) instrs) ++ end_rows f S (books_from S B (start S) instrs) counts (run S instrs)) begun
    ∙ ap (λ (o : Option BlameContents). line_rows f S (lines_from S (empty_ledger S) (start S) instrs) ++ end_rows f S (books_from S (books_begun S) (start S) instrs) o (run S instrs))
    (ap (λ (o : Option BlameContents). blame_kept_from S o (start S) instrs) blame ∙ blame-from clerk.asked.whom S (no_blame S) (start S) instrs)

-- Counts of for whom works wait, if they are kept.

pub if-within : (whom : Bool) (n : ℕ) (B : BlameContents) → IsBlameWithin n B → IsBlameIfWithin n (blame_if whom B)
if-within true n B within = within
if-within false n B within = tt

pub kept-within : (S : ScenarioContents) (o : Option BlameContents) (s : State) (i : Instr) → IsSetting S → IsBlameIfWithin (512 * s.spent) o
    → IsBlameIfWithin (512 * (table S s i).0.spent) (blame_kept S o s i)
kept-within S (Some B) s i setting within = after-within S B s i setting within
kept-within S None s i setting within = tt
