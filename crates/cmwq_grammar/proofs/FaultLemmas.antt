-- The first fault of a text: where reading fails is the first line with which no scenario's text begins.
use Rattle.std.proofs.Common.{◌≡◌, ℕ, zero, suc, ◌+◌, ◌<◌, Bool, true, false, not, ◌⊎◌, List, [], ◌∷◌, ◌++◌, map, length, get_or, take, cond, eqb, ltb, Result, Ok, Err, arith, refl, sym, ap, ◌∙◌, inl, inr, subst}
use Rattle.std.proofs.lemmas.List.{map-append, take_more}
use Rattle.std.proofs.lemmas.List.Elements.{filter-append}
use Rattle.std.proofs.lemmas.List.Folds.{list_all-append}
use Rattle.std.specs.List.{filter, list_all, onto_first, slice_split}
use Rattle.cmwq_types.specs.Contents.{ScenarioContents}
use Rattle.cmwq_types.specs.Listing.{WrittenLine, written}
use Rattle.cmwq_types.specs.declared.limits.TheConstants.{MAX_TEXT}
use Rattle.cmwq_grammar.specs.Cutting.{is_empty, lines_of, without_empty_last, worded, words_of}
use Rattle.cmwq_grammar.specs.FaultLaw.{Begins, FaultAtEnd, FaultInLine, IsFault}
use Rattle.cmwq_grammar.specs.LineFields.{◌>>=◌}
use Rattle.cmwq_grammar.specs.Grammar.{SayAll}
use Rattle.cmwq_grammar.specs.Meaning.{FaultAt, at_line, ends_before, fault_at, reads, reads_lines, stage_after}
use Rattle.cmwq_grammar.specs.LineReasons.{at_end, judge}
use Rattle.cmwq_grammar.specs.Stages.{Stage, Start}
use Rattle.cmwq_grammar.specs.declared.why.Why.{Why}
use Rattle.cmwq_grammar.specs.declared.why.Why.TheVariants as why
use Rattle.cmwq_grammar.proofs.Basics.{and_true, true_and, bind_at, bind_ok, chosen, cond_no, cond_yes, fine, below, below_is, not_below, not_below_is}
use Rattle.cmwq_grammar.proofs.CanonicalLines.{all_plain, fed, fed_lines, is_feed, joined, no_feeds, plain_no_feeds, plain_utf8, plain_worded, plain_words}
use Rattle.cmwq_grammar.proofs.Completions.{Completion, complete}
use Rattle.cmwq_grammar.proofs.GoodScenario.{Good, good_from_valid, valid_from_good}
use Rattle.cmwq_grammar.proofs.ListingLemmas.{LinesFitIn, canonical, canonical_say, written_fits}
use Rattle.cmwq_grammar.proofs.ReadingLemmas.{LinesRead, all_read, line_ok}
use Rattle.cmwq_grammar.proofs.SpellingLemmas.{Reached, all_said, text_reads}
use Rattle.cmwq_grammar.proofs.Utf8Lemmas.{AllUtf8, lines_utf8, text_utf8}

-- No line of a text has a line feed.

abbrev no_feed : List ℕ → Bool
no_feed line = list_all (λ b. not (is_feed b)) line

pieces_no_feeds : (text : List ℕ) → no_feeds (slice_split is_feed text) ≡ true
pieces_no_feeds [] = refl
pieces_no_feeds (x ∷ xs) = at (is_feed x) refl (slice_split is_feed xs) (pieces_no_feeds xs)
  where
    on_first : (pieces : List (List ℕ)) → not (is_feed x) ≡ true → no_feeds pieces ≡ true → no_feeds (onto_first x pieces) ≡ true
    on_first [] here all = true_and (no_feed (x ∷ [])) true (true_and (not (is_feed x)) true here refl) refl
    on_first (piece ∷ pieces) here all =
        let both : (no_feed piece ≡ true) × (no_feeds pieces ≡ true) = and_true (no_feed piece) (no_feeds pieces) all in
        true_and (no_feed (x ∷ piece)) (no_feeds pieces) (true_and (not (is_feed x)) (no_feed piece) here both.0) both.1

    at : (b : Bool) → is_feed x ≡ b → (pieces : List (List ℕ)) → no_feeds pieces ≡ true → no_feeds (cond b ([] ∷ pieces) (onto_first x pieces)) ≡ true
    at true e pieces all = all
    at false e pieces all = on_first pieces (ap not e) all

kept_no_feeds : (pieces : List (List ℕ)) → no_feeds pieces ≡ true → no_feeds (without_empty_last pieces) ≡ true
kept_no_feeds [] all = refl
kept_no_feeds (last ∷ []) all = at (eqb (length last) 0)
  where
    at : (b : Bool) → no_feeds (cond b [] (last ∷ [])) ≡ true
    at true = refl
    at false = all
kept_no_feeds (piece ∷ next ∷ more) all =
    let both : (no_feed piece ≡ true) × (no_feeds (next ∷ more) ≡ true) = and_true (no_feed piece) (no_feeds (next ∷ more)) all in
    true_and (no_feed piece) (no_feeds (without_empty_last (next ∷ more))) both.0 (kept_no_feeds (next ∷ more) both.1)

pub lines_no_feeds : (text : List ℕ) → no_feeds (lines_of text) ≡ true
lines_no_feeds text = kept_no_feeds (slice_split is_feed text) (pieces_no_feeds text)

taken_no_feeds : (n : ℕ) (lines : List (List ℕ)) → no_feeds lines ≡ true → no_feeds (take n lines) ≡ true
taken_no_feeds zero lines all = refl
taken_no_feeds (suc n) [] all = refl
taken_no_feeds (suc n) (line ∷ lines) all =
    let both : (no_feed line ≡ true) × (no_feeds lines ≡ true) = and_true (no_feed line) (no_feeds lines) all in
    true_and (no_feed line) (no_feeds (take n lines)) both.0 (taken_no_feeds n lines both.1)

-- Lines that are read begin a scenario's text.

utf8_on : (xs ys : List (List ℕ)) → AllUtf8 xs → AllUtf8 ys → AllUtf8 (xs ++ ys)
utf8_on [] ys a b = b
utf8_on (x ∷ xs) ys a b = (a.0, utf8_on xs ys a.1 b)

utf8_front : (xs ys : List (List ℕ)) → AllUtf8 (xs ++ ys) → AllUtf8 xs
utf8_front [] ys all = tt
utf8_front (x ∷ xs) ys all = (all.0, utf8_front xs ys all.1)

worded_both : (xs ys : List (List ℕ)) → worded (xs ++ ys) ≡ worded xs ++ worded ys
worded_both xs ys =
    ap (λ (ws : List (List (List ℕ))). filter (λ words. not (is_empty words)) ws) (map-append words_of xs ys)
    ∙ filter-append (λ words. not (is_empty words)) (map words_of xs) (map words_of ys)

say_on : (before after : List WrittenLine) (xs ys : List (List (List ℕ))) → SayAll before xs → SayAll after ys → SayAll (before ++ after) (xs ++ ys)
say_on [] after [] ys a b = b
say_on [] after (x ∷ xs) ys a b = absurd a
say_on (l ∷ before) after [] ys a b = absurd a
say_on (l ∷ before) after (x ∷ xs) ys a b = (a.0, say_on before after xs ys a.1 b)

pub read_begins : (lines : List (List ℕ)) (stage : Stage) → no_feeds lines ≡ true → stage_after 1 lines Start ≡ Ok stage → Begins lines
read_begins lines stage none e =
    let read : LinesRead Start (worded lines) stage × AllUtf8 lines = all_read 1 lines Start stage tt e in
    let whole : Completion stage = complete stage (read.0).sound in
    let S = whole.scenario in
    let told = (read.0).front whole.lines S whole.continues in
    let fit : LinesFitIn MAX_TEXT (written S) = written_fits S whole.good in
    let said : List (List (List ℕ)) = map canonical whole.lines in
    let parts : all_plain (map canonical told.0 ++ said) ≡ true =
    sym (ap all_plain (map-append canonical told.0 whole.lines)) ∙ ap (λ (ls : List WrittenLine). all_plain (map canonical ls)) told.2 ∙ fit.plain in
    let both : (all_plain (map canonical told.0) ≡ true) × (all_plain said ≡ true) =
    and_true (all_plain (map canonical told.0)) (all_plain said) (sym (list_all-append plain_words (map canonical told.0) said) ∙ parts) in
    let more : List (List ℕ) = map joined said in
    let text : List ℕ = fed (lines ++ more) in
    let feeds : no_feeds (lines ++ more) ≡ true = list_all-append no_feed lines more ∙ true_and (no_feeds lines) (no_feeds more) none (plain_no_feeds said both.1) in
    let cut : lines_of text ≡ lines ++ more = fed_lines (lines ++ more) feeds in
    let utf8 : AllUtf8 (lines ++ more) = utf8_on lines more read.1 (plain_utf8 said both.1) in
    let words : worded (lines_of text) ≡ worded lines ++ said =
    ap worded cut ∙ worded_both lines more ∙ ap (λ (ws : List (List (List ℕ))). worded lines ++ ws) (plain_worded said both.1) in
    let says : SayAll (told.0 ++ whole.lines) (worded lines ++ said) = say_on told.0 whole.lines (worded lines) said told.1 (canonical_say whole.lines) in
    let says_written : SayAll (written S) (worded lines ++ said) = subst (λ (ls : List WrittenLine). SayAll ls (worded lines ++ said)) told.2 says in
    let valid = valid_from_good S whole.good in (
      text,
      more,
      S,
      cut,
      record {
        utf8 = text_utf8 text (subst AllUtf8 (sym cut) utf8);
        lines = subst (λ (ws : List (List (List ℕ))). SayAll (written S) ws) (sym words) says_written;
        valid = valid.0;
        scenario = valid.1;
      },
    )

pub begins_read : (lines : List (List ℕ)) → Begins lines → (stage : Stage) × (stage_after 1 lines Start ≡ Ok stage)
begins_read lines (text, more, S, cut, is) =
    let good : Good S = good_from_valid S is.valid is.scenario in
    let utf8 : AllUtf8 (lines ++ more) = subst AllUtf8 cut (lines_utf8 text is.utf8) in
    let says : SayAll (written S) (worded (lines ++ more)) = subst (λ (ls : List (List ℕ)). SayAll (written S) (worded ls)) cut is.lines in
    let on : Reached 1 lines more Start S = all_said 1 lines more S good (utf8_front lines more utf8) Start (written S) tt refl says in
    (on.next, on.reached)

-- Where reading fails.

abbrev failed : {A : Type 0} → FaultAt → Result A FaultAt
failed fault = Err fault

bind_err : {A B : Type 0} (r : Result A FaultAt) (next : A → Result B FaultAt) (fault : FaultAt) → (r >>= next) ≡ Err fault
    → (r ≡ Err fault) ⊎ ((x : A) × (r ≡ Ok x) × (next x ≡ Err fault))
bind_err (Ok x) next fault e = inr (x, refl, e)
bind_err {B = B} (Err g) next fault e = inl (ap failed (same g fault e))
  where
    same : (a b : FaultAt) → failed {A = B} a ≡ failed b → a ≡ b
    same a b h = cc

-- a line's fault is at it, and has a reason
fault_of : {A : Type 0} (n : ℕ) (r : Result A Why) (fault : FaultAt) → at_line n r ≡ Err fault → (reason : Why) × (r ≡ Err reason) × (fault_at n reason ≡ fault)
fault_of n (Ok x) fault e = cc
fault_of {A = A} n (Err reason) fault e = (reason, refl, same (fault_at n reason) fault e)
  where
    same : (a b : FaultAt) → failed {A = A} a ≡ failed b → a ≡ b
    same a b h = cc

-- reading fails after k lines
pub record FailsAfter (n : ℕ) (lines : List (List ℕ)) (origin : Stage) (fault : FaultAt) : Type 0 where
  pub k : ℕ
  pub there : k < length lines
  pub stage : Stage
  pub before : stage_after n (take k lines) origin ≡ Ok stage
  pub reason : Why
  pub judged : judge stage (get_or lines k []) ≡ Err reason
  pub is : fault_at (n + k) reason ≡ fault

fails_after : (n : ℕ) (lines : List (List ℕ)) (origin : Stage) (fault : FaultAt) → stage_after n lines origin ≡ Err fault → FailsAfter n lines origin fault
unfolding stage_after
fails_after n [] origin fault e = cc
fails_after n (line ∷ lines) origin fault e =
    elim (bind_err (at_line n (judge origin line)) (stage_after (n + 1) lines) fault e) [
      | inl it ↦ (let told = fault_of n (judge origin line) fault it in
          record { k = 0; there = omega arith; stage = origin; before = refl; reason = told.0; judged = told.1; is = ap (λ (m : ℕ). fault_at m told.0) (omega arith) ∙ told.2 })
      | inr it ↦ (let later : FailsAfter (n + 1) lines it.0 fault = fails_after (n + 1) lines it.0 fault it.2 in
          record {
            k = suc later.k;
            there = (let t : later.k < length lines = later.there in omega arith);
            stage = later.stage;
            before = bind_at (at_line n (judge origin line)) (stage_after (n + 1) (take later.k lines)) it.0 it.1 ∙ later.before;
            reason = later.reason;
            judged = later.judged;
            is = ap (λ (m : ℕ). fault_at m later.reason) (omega arith) ∙ later.is;
          })
    ]

-- the same from the stage and the reason
fails_at : (n : ℕ) (lines : List (List ℕ)) (origin : Stage) (k : ℕ) (stage : Stage) (reason : Why) → k < length lines → stage_after n (take k lines) origin ≡ Ok stage
    → judge stage (get_or lines k []) ≡ Err reason → stage_after n lines origin ≡ Err (fault_at (n + k) reason)
unfolding stage_after
fails_at n [] origin k stage reason there before e = absurd (omega arith)
fails_at n (line ∷ lines) origin zero stage reason there before e =
    let same : origin ≡ stage = stage_same origin stage before in
    ap (λ (r : Result Stage Why). at_line n r >>= stage_after (n + 1) lines) (ap (λ (s : Stage). judge s line) same ∙ e)
    ∙ ap (λ (m : ℕ). failed (fault_at m reason)) (omega arith)
  where
    stage_ok : Stage → Result Stage FaultAt
    stage_ok s = Ok s

    stage_same : (a b : Stage) → stage_ok a ≡ stage_ok b → a ≡ b
    stage_same a b h = cc
fails_at n (line ∷ lines) origin (suc k) stage reason there before e =
    let first : (s : Stage) × (at_line n (judge origin line) ≡ Ok s) × (stage_after (n + 1) (take k lines) s ≡ Ok stage) =
    bind_ok (at_line n (judge origin line)) (stage_after (n + 1) (take k lines)) stage before in
    let later : stage_after (n + 1) lines first.0 ≡ Err (fault_at ((n + 1) + k) reason) = fails_at (n + 1) lines first.0 k stage reason (omega arith) first.2 e in
    bind_at (at_line n (judge origin line)) (stage_after (n + 1) lines) first.0 first.1 ∙ later ∙ ap (λ (m : ℕ). failed (fault_at m reason)) (omega arith)

-- one line more
pub one_more : (n : ℕ) (lines : List (List ℕ)) (line : List ℕ) (origin stage next : Stage) → stage_after n lines origin ≡ Ok stage
    → stage_after n (lines ++ line ∷ []) origin ≡ Ok next → judge stage line ≡ Ok next
unfolding stage_after
one_more n [] line origin stage next before e =
    let same : origin ≡ stage = stage_same origin stage before in
    let there : (s : Stage) × (at_line n (judge origin line) ≡ Ok s) × (stage_ok s ≡ Ok next) = bind_ok (at_line n (judge origin line)) stage_ok next e in
    ap (λ (s : Stage). judge s line) (sym same) ∙ line_ok n (judge origin line) there.0 there.1 ∙ ap fine (stage_same there.0 next there.2)
  where
    stage_ok : Stage → Result Stage FaultAt
    stage_ok s = Ok s

    stage_same : (a b : Stage) → stage_ok a ≡ stage_ok b → a ≡ b
    stage_same a b h = cc
one_more n (first ∷ lines) line origin stage next before e =
    let a : (s : Stage) × (at_line n (judge origin first) ≡ Ok s) × (stage_after (n + 1) lines s ≡ Ok stage) =
    bind_ok (at_line n (judge origin first)) (stage_after (n + 1) lines) stage before in
    let b : (s : Stage) × (at_line n (judge origin first) ≡ Ok s) × (stage_after (n + 1) (lines ++ line ∷ []) s ≡ Ok next) =
    bind_ok (at_line n (judge origin first)) (stage_after (n + 1) (lines ++ line ∷ [])) next e in
    let same : b.0 ≡ a.0 = stage_same b.0 a.0 (sym b.1 ∙ a.1) in
    one_more (n + 1) lines line a.0 stage next a.2 (subst (λ (s : Stage). stage_after (n + 1) (lines ++ line ∷ []) s ≡ Ok next) same b.2)
  where
    stage_ok : Stage → Result Stage FaultAt
    stage_ok s = Ok s

    stage_same : (x y : Stage) → stage_ok x ≡ stage_ok y → x ≡ y
    stage_same x y h = cc

-- The law.

not_both : {A : Type 0} (r : Result Stage Why) (stage : Stage) (reason : Why) → r ≡ Ok stage → r ≡ Err reason → A
not_both {A = A} r stage reason a b = apart stage reason (sym a ∙ b)
  where
    apart : (s : Stage) (w : Why) → fine s ≡ Err w → A
    apart s w h = cc

fault_in_line : (lines : List (List ℕ)) (fault : FaultAt) → no_feeds lines ≡ true → (fails : FailsAfter 1 lines Start fault) → FaultInLine lines fails.k fault
fault_in_line lines fault none fails =
    let line : List ℕ = get_or lines fails.k [] in
    let front : List (List ℕ) = take fails.k lines in
    record {
      there = fails.there;
      before = read_begins front fails.stage (taken_no_feeds fails.k lines none) fails.before;
      with = λ begins.
          let read = begins_read (take (fails.k + 1) lines) begins in
          let grown : take (fails.k + 1) lines ≡ front ++ line ∷ [] = take_more lines fails.k [] fails.there in
          let passes : judge fails.stage line ≡ Ok read.0 =
          one_more 1 front line Start fails.stage read.0 fails.before (ap (λ (ls : List (List ℕ)). stage_after 1 ls Start) (sym grown) ∙ read.1) in
          not_both (judge fails.stage line) read.0 fails.reason passes fails.judged;
      line = ap (λ (f : FaultAt). f.line) (sym fails.is) ∙ omega arith;
      why = (fails.stage, fails.before, fails.judged ∙ ap (λ (f : FaultAt). refused f.why) fails.is);
    }
  where
    refused : Why → Result Stage Why
    refused w = Err w

fault_same : (a b : FaultAt) → failed {A = ScenarioContents} a ≡ failed b → a ≡ b
fault_same a b h = cc

lines_end : (text : List ℕ) (stage : Stage) (fault : FaultAt) → stage_after 1 (lines_of text) Start ≡ Ok stage
    → ends_before (length (lines_of text) + 1) stage ≡ Err fault → reads_lines (lines_of text) ≡ Err fault
unfolding reads_lines
lines_end text stage fault before e = bind_at (stage_after 1 (lines_of text) Start) (ends_before (length (lines_of text) + 1)) stage before ∙ e

fault_at_end : (text : List ℕ) (stage : Stage) (fault : FaultAt) → stage_after 1 (lines_of text) Start ≡ Ok stage
    → ends_before (length (lines_of text) + 1) stage ≡ Err fault → FaultAtEnd text fault
fault_at_end text stage fault before e =
    let lines = lines_of text in
    let told : (reason : Why) × (at_end stage ≡ Err reason) × (fault_at (length lines + 1) reason ≡ fault) = fault_of (length lines + 1) (at_end stage) fault e in
    record {
      begins = read_begins lines stage (lines_no_feeds text) before;
      ends = λ S is. not_read S (sym (text_reads lines S (lines_utf8 text is.utf8) (good_from_valid S is.valid is.scenario) is.lines) ∙ whole);
      line = ap (λ (f : FaultAt). f.line) (sym told.2);
      why = (stage, before, told.1 ∙ ap (λ (f : FaultAt). refused f.why) told.2);
    }
  where
    refused : Why → Result ScenarioContents Why
    refused w = Err w

    whole : reads_lines (lines_of text) ≡ Err fault
    whole = lines_end text stage fault before e

    as_ok : ScenarioContents → Result ScenarioContents FaultAt
    as_ok S = Ok S

    not_read : (S : ScenarioContents) → as_ok S ≡ Err fault → ⊥
    not_read S h = cc

pub fault_is : (text : List ℕ) (fault : FaultAt) → reads text ≡ Err fault → IsFault text fault
unfolding reads reads_lines
fault_is text fault e =
    let lines = lines_of text in
    elim (chosen (ltb MAX_TEXT (length text)) (failed (fault_at 0 why.TooLong)) (stage_after 1 lines Start >>= ends_before (length lines + 1)) (Err fault) e) [
      | inl it ↦ inl (below MAX_TEXT (length text) it.0, sym (fault_same (fault_at 0 why.TooLong) fault it.1))
      | inr it ↦ elim (bind_err (stage_after 1 lines Start) (ends_before (length lines + 1)) fault it.1) [
        | inl here ↦ (let fails : FailsAfter 1 lines Start fault = fails_after 1 lines Start fault here in
            inr (inl (not_below (length text) MAX_TEXT it.0, fails.k, fault_in_line lines fault (lines_no_feeds text) fails)))
        | inr ends ↦ inr (inr (not_below (length text) MAX_TEXT it.0, fault_at_end text ends.0 fault ends.1 ends.2))
      ]
    ]

pub is_fault : (text : List ℕ) (fault : FaultAt) → IsFault text fault → reads text ≡ Err fault
unfolding reads reads_lines
is_fault text fault (inl it) =
    cond_yes (ltb MAX_TEXT (length text)) (failed (fault_at 0 why.TooLong)) (reads_lines (lines_of text)) (below_is MAX_TEXT (length text) it.0) ∙ ap failed (sym it.1)
is_fault text fault (inr (inl it)) =
    let lines = lines_of text in
    let at : FaultInLine lines it.1 fault = it.2 in
    let stage = at.why.0 in
    let fails : stage_after 1 lines Start ≡ Err (fault_at (1 + it.1) fault.why) = fails_at 1 lines Start it.1 stage fault.why at.there at.why.1 at.why.2 in
    let same : fault_at (1 + it.1) fault.why ≡ fault = ap (λ (m : ℕ). fault_at m fault.why) (omega arith) ∙ ap (λ (m : ℕ). fault_at m fault.why) (sym at.line) in
    cond_no (ltb MAX_TEXT (length text)) (failed (fault_at 0 why.TooLong)) (reads_lines lines) (not_below_is (length text) MAX_TEXT it.0)
    ∙ ap (λ (r : Result Stage FaultAt). r >>= ends_before (length lines + 1)) fails ∙ ap failed same
is_fault text fault (inr (inr it)) =
    let lines = lines_of text in
    let at : FaultAtEnd text fault = it.1 in
    let stage = at.why.0 in
    let same : fault_at (length lines + 1) fault.why ≡ fault = ap (λ (m : ℕ). fault_at m fault.why) (sym at.line) in
    cond_no (ltb MAX_TEXT (length text)) (failed (fault_at 0 why.TooLong)) (reads_lines lines) (not_below_is (length text) MAX_TEXT it.0)
    ∙ bind_at (stage_after 1 lines Start) (ends_before (length lines + 1)) stage at.why.1 ∙ ap (at_line (length lines + 1)) at.why.2 ∙ ap failed same
