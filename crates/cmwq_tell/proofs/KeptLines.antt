-- Which lines of what is told are kept by a test that keeps each line of a kind, or none.
use Rattle.std.proofs.Common.{◌≡◌, ◌≤◌, ◌<◌, ◌+◌, ◌^◌, ℕ, Bool, true, false, not, ◌&&◌, cond, List, [], ◌∷◌, ◌++◌, codes, arith, length, map, refl, sym, ap, ◌∙◌, subst, append_assoc}
use Rattle.std.proofs.lemmas.Bool.Decides.{nat_tests}
use Rattle.std.proofs.lemmas.Fmt.{decimal_nonempty}
use Rattle.std.specs.Fmt.{decimal}
use Rattle.std.specs.List.{AllByRecursion, filter, flat_map, join_with_byte, list_all}
use Rattle.std.specs.Prelude.{◌==◌, slice_index_or}
use Rattle.cmwq_types.specs.Contents.{ActorContents, ScenarioContents}
use Rattle.cmwq_types.specs.Scenario.{expand}
use Rattle.cmwq_types.specs.Values.{IsScenario}
use Rattle.cmwq_types.specs.declared.instr.Instr.{Instr}
use Rattle.cmwq_types.specs.declared.instr.Instr.TheVariants as instr
use Rattle.cmwq_types.specs.declared.limits.TheConstants.{MAX_HISTORY}
use Rattle.cmwq_types.specs.Listing.{instr_words}
use Rattle.cmwq_types.specs.declared.reply.Reply.{Reply}
use Rattle.cmwq_table.specs.Events.{events, events_from, is_silent, event_line_at, reply_line, reply_words, told}
use Rattle.cmwq_table.specs.State.{State, start}
use Rattle.cmwq_table.specs.Table.{table}
use Rattle.cmwq_grammar.specs.Cutting.{lines_of}
use Rattle.cmwq_grammar.specs.Grammar.{Spells}
use Rattle.cmwq_grammar.proofs.CallerLemmas.{line_cut}
use Rattle.cmwq_play.proofs.TextLemmas.{same_actor}
use Rattle.cmwq_settle.specs.Counting.{with_one_actor}
use Rattle.cmwq_settle.specs.Settled.{IsSettled, IsSettledIf, with_nexts}
use Rattle.cmwq_settle.specs.Settling.{IsSettledOutput, followed}
use Rattle.cmwq_settle.proofs.AnswerLemmas.{settled-once}
use Rattle.cmwq_settle.proofs.CallerLemmas.{settled_if-once}
use Rattle.cmwq_settle.proofs.LineLemmas.{expand-with_nexts}
use Rattle.cmwq_settle.proofs.OtherActors.{same-events, settled-is, settled-scenario}
use Rattle.cmwq_tell.specs.declared.change.Change.{Change}
use Rattle.cmwq_tell.specs.Hidden.{change_line, change_text, hidden}
use Rattle.cmwq_tell.specs.Laws.{KeepsTheRun, KeepsTheSettledRun, ListsEachPart, come_said, from_lines, instr_said, is_instr_line, is_marked, part_said, unmarked}
use Rattle.cmwq_tell.specs.RunTold.{IsTold, IsToldIf, Part, change_lines, come_line, come_text, come_words, has_come, instr_line, joined, joins, part_at, part_if, part_text, parts_from, tell_from}
use Rattle.cmwq_tell.proofs.ComeLemmas.{come-done, joins-come}
use Rattle.cmwq_tell.proofs.LineLemmas.{NoFeed, change-no_feed, glyphs, instr-no_feed, is_glyph, joint, literal, number, reply-no_feed}

-- a line and what follows it
cut : (line rest : List ℕ) → NoFeed line → lines_of ((line ++ 10 ∷ []) ++ rest) ≡ line ∷ lines_of rest
cut line rest whole = ap lines_of (append_assoc line (10 ∷ []) rest) ∙ line_cut line rest whole.whole

cond-true : {A : Type 0} (b : Bool) (x y : A) → b ≡ true → cond b x y ≡ x
cond-true true x y e = refl
cond-true false x y e = cc

cond-false : {A : Type 0} (b : Bool) (x y : A) → b ≡ false → cond b x y ≡ y
cond-false true x y e = cc
cond-false false x y e = refl

module _ (test : List ℕ → Bool) where
  abbrev pub kept : List ℕ → List (List ℕ)
  kept text = filter test (lines_of text)

  keep : (line rest : List ℕ) → NoFeed line → test line ≡ true → kept ((line ++ 10 ∷ []) ++ rest) ≡ line ∷ kept rest
  keep line rest whole passes = ap (λ (lines : List (List ℕ)). filter test lines) (cut line rest whole) ∙ cond-true (test line) (line ∷ kept rest) (kept rest) passes

  skip : (line rest : List ℕ) → NoFeed line → test line ≡ false → kept ((line ++ 10 ∷ []) ++ rest) ≡ kept rest
  skip line rest whole fails = ap (λ (lines : List (List ℕ)). filter test lines) (cut line rest whole) ∙ cond-false (test line) (line ∷ kept rest) (kept rest) fails

  -- where each line of changes is skipped
  skip-changes : (S : ScenarioContents) → IsScenario S → ((text : List ℕ) → test (codes "#   " ++ text) ≡ false) → (changes : List Change) (rest : List ℕ)
      → kept (change_lines S changes ++ rest) ≡ kept rest
  skip-changes S scenario fails [] rest = refl
  skip-changes S scenario fails (c ∷ changes) rest =
      ap kept (append_assoc (change_line S c) (change_lines S changes) rest)
      ∙ skip (codes "#   " ++ change_text S c) (change_lines S changes ++ rest) (joint (literal (codes "#   ") refl) (change-no_feed S scenario c)) (fails (change_text S c))
      ∙ skip-changes S scenario fails changes rest

-- the line of a reply, without its end
abbrev said : ScenarioContents → ℕ → Instr → Reply → List ℕ
said S now asked r = decimal now ++ codes " " ++ reply_words S asked r

said-no_feed : (S : ScenarioContents) → IsScenario S → (now : ℕ) (asked : Instr) (r : Reply) → NoFeed (said S now asked r)
said-no_feed S scenario now asked r = joint (joint (number now) (literal (codes " ") refl)) (reply-no_feed S scenario asked r)

head-passes : (a b : Bool) → (a && b) ≡ true → a ≡ true
head-passes true b e = refl
head-passes false b e = cc

glyph-unmarked : (b : ℕ) → is_glyph b ≡ true → (b == 35) ≡ false
glyph-unmarked b h = grind (arith, nat_tests)

first-glyph : (xs ys : List ℕ) → list_all is_glyph xs ≡ true → is_marked ((xs ++ codes " ") ++ ys) ≡ false
first-glyph [] ys all = refl
first-glyph (x ∷ xs) ys all = glyph-unmarked x (head-passes (is_glyph x) (list_all is_glyph xs) all)

said-unmarked : (S : ScenarioContents) (now : ℕ) (asked : Instr) (r : Reply) → is_marked (said S now asked r) ≡ false
said-unmarked S now asked r = first-glyph (decimal now) (reply_words S asked r) (glyphs now)

line_at-is : (S : ScenarioContents) (now : ℕ) (asked : Instr) (r : Reply) → event_line_at now (reply_words S asked r) ≡ said S now asked r ++ 10 ∷ []
line_at-is S now asked r = refl

-- What is told of one instruction, and what follows it.

module _ (S : ScenarioContents) (scenario : IsScenario S) where
  said-whole : (k : ℕ) (i : Instr) → NoFeed (instr_said S k i)
  said-whole k i = joint (literal (codes "# ") refl) (joint (number k) (joint (literal (codes " ") refl) (instr-no_feed S scenario i)))

  instr_line-is : (k : ℕ) (i : Instr) → instr_line S k i ≡ instr_said S k i ++ 10 ∷ []
  instr_line-is k i =
      ap (λ (text : List ℕ). codes "# " ++ text) (sym (append_assoc (decimal k) (codes " " ++ join_with_byte 32 (instr_words S i)) (10 ∷ [])))

  parts : (k : ℕ) (i : Instr) (line : List ℕ) (changes : List Change) (rest : List ℕ) → (instr_line S k i ++ line ++ change_lines S changes) ++ rest ≡ (instr_said S k i ++ 10 ∷ []) ++ (line ++ (change_lines S changes ++ rest))
  parts k i line changes rest =
      append_assoc (instr_line S k i ++ line) (change_lines S changes) rest ∙ append_assoc (instr_line S k i) line (change_lines S changes ++ rest)
      ∙ ap (λ (first : List ℕ). first ++ (line ++ (change_lines S changes ++ rest))) (instr_line-is k i)

  -- Without what is marked.

  abbrev plain : List ℕ → Bool
  plain line = not (is_marked line)

  plain-reply : (now : ℕ) (i : Instr) (r : Reply) (b : Bool) (rest : List ℕ)
      → from_lines (kept plain (cond b [] (event_line_at now (reply_words S i r)) ++ rest)) ≡ cond b [] (event_line_at now (reply_words S i r)) ++ from_lines (kept plain rest)
  plain-reply now i r true rest = refl
  plain-reply now i r false rest =
      let line = said S now i r in
      ap (λ (text : List ℕ). from_lines (kept plain (text ++ rest))) (line_at-is S now i r)
      ∙ ap from_lines (keep plain line rest (said-no_feed S scenario now i r) (ap not (said-unmarked S now i r)))
      ∙ ap (λ (text : List ℕ). text ++ from_lines (kept plain rest)) (sym (line_at-is S now i r))

  plain-one : (k now : ℕ) (i : Instr) (r : Reply) (changes : List Change) (rest : List ℕ)
      → unmarked ((instr_line S k i ++ reply_line S now i r ++ change_lines S changes) ++ rest) ≡ reply_line S now i r ++ unmarked rest
  unfolding reply_line
  plain-one k now i r changes rest =
      let line = reply_line S now i r in
      ap unmarked (parts k i line changes rest)
      ∙ ap from_lines (skip plain (instr_said S k i) (line ++ (change_lines S changes ++ rest)) (said-whole k i) refl)
      ∙ plain-reply now i r (is_silent r) (change_lines S changes ++ rest)
      ∙ ap (λ (lines : List (List ℕ)). line ++ from_lines lines) (skip-changes plain S scenario (λ text. refl) changes rest)

  -- What has come.

  come-words : (i : Instr) → NoFeed (come_words i)
  come-words instr.Quiet = literal (codes "nothing is pending or runs") refl
  come-words (instr.Until time) = joint (joint (literal (codes "it is ") refl) (number time)) (literal (codes " or later") refl)
  come-words (instr.Wait flush) = joint (joint (literal (codes "flush ") refl) (number flush)) (literal (codes " is done") refl)
  come-words other = literal [] refl

  come-whole : (first last : ℕ) (i : Instr) → NoFeed (come_said S first last i)
  come-whole first last i =
      joint (literal (codes "# ") refl)
      (joint (number first)
      (joint (literal (codes " to ") refl)
      (joint (number last)
      (joint (literal (codes " ") refl)
      (joint (instr-no_feed S scenario i)
      (joint (literal (codes ": ") refl) (come-words i)))))))

  come_line-is : (first last : ℕ) (i : Instr) → come_line S first last i ≡ come_said S first last i ++ 10 ∷ []
  come_line-is first last i =
      let words = join_with_byte 32 (instr_words S i) in
      let reason = codes ": " ++ come_words i in
      let behind = codes " " ++ (words ++ reason) in
      sym (
      ap (λ (text : List ℕ). codes "# " ++ text) (append_assoc (decimal first) (codes " to " ++ (decimal last ++ behind)) (10 ∷ []))
      ∙ ap (λ (text : List ℕ). codes "# " ++ (decimal first ++ (codes " to " ++ text))) (append_assoc (decimal last) behind (10 ∷ []))
      ∙ ap (λ (text : List ℕ). codes "# " ++ (decimal first ++ (codes " to " ++ (decimal last ++ (codes " " ++ text))))) (append_assoc words reason (10 ∷ []))
      )

  -- its line without its end, by whether it is of one instruction
  abbrev line_if : (first last : ℕ) → Instr → Bool → List ℕ
  line_if first last i one = cond one (instr_said S first i) (come_said S first last i)

  line-whole : (first last : ℕ) (i : Instr) (one : Bool) → NoFeed (line_if first last i one)
  line-whole first last i true = said-whole first i
  line-whole first last i false = come-whole first last i

  line-is : (first last : ℕ) (i : Instr) (one : Bool) → cond one (instr_line S first i) (come_line S first last i) ≡ line_if first last i one ++ 10 ∷ []
  line-is first last i true = instr_line-is first i
  line-is first last i false = come_line-is first last i

  line-marked : (first last : ℕ) (i : Instr) (one : Bool) → plain (line_if first last i one) ≡ false
  line-marked first last i true = refl
  line-marked first last i false = refl

  plain-come : (part : Part) (rest : List ℕ) → part.come ≡ true → unmarked (part_text S part ++ rest) ≡ unmarked rest
  plain-come part rest come =
      let one = part.first == part.last in
      ap (λ (b : Bool). unmarked (cond b (come_text S part.first part.last part.instr) part.whole ++ rest)) come
      ∙ ap (λ (text : List ℕ). unmarked (text ++ rest)) (line-is part.first part.last part.instr one)
      ∙ ap from_lines (skip plain (line_if part.first part.last part.instr one) rest (line-whole part.first part.last part.instr one) (line-marked part.first part.last part.instr one))

  -- it has no line of its own
  come-silent : (s : State) (i : Instr) → has_come S s i ≡ true → told S i (table S s i) ≡ []
  unfolding reply_line
  come-silent s i come = ap (told S i) (come-done S s i come)

  plain-part : (k : ℕ) (s : State) (i : Instr) (b : Bool) (rest : List ℕ) → has_come S s i ≡ b → unmarked (part_text S (part_if S k s i b) ++ rest) ≡ told S i (table S s i) ++ unmarked rest
  plain-part k s i true rest come =
      plain-come (part_if S k s i true) rest refl ∙ ap (λ (line : List ℕ). line ++ unmarked rest) (sym (come-silent s i come))
  plain-part k s i false rest come =
      let after = table S s i in
      plain-one k after.0.time i after.1 (hidden s after.0 after.1) rest

  -- it is the same whether it is joined
  plain-joined : (part : Part) (parts : List Part) → unmarked (flat_map (part_text S) (joined part parts)) ≡ unmarked (part_text S part ++ flat_map (part_text S) parts)
  plain-joined part [] = refl
  plain-joined part (next ∷ others) = by (joins part next) refl where
    by : (b : Bool) → joins part next ≡ b
        → unmarked (flat_map (part_text S) (cond b (record part { last = next.last } ∷ others) (part ∷ next ∷ others))) ≡ unmarked (part_text S part ++ flat_map (part_text S) (next ∷ others))
    by true j =
        let come = joins-come part next j in
        plain-come (record part { last = next.last }) (flat_map (part_text S) others) come.0
        ∙ sym (plain-come part (part_text S next ++ flat_map (part_text S) others) come.0 ∙ plain-come next (flat_map (part_text S) others) come.1)
    by false j = refl

  pub plain-all : (k : ℕ) (s : State) (instrs : List Instr) → unmarked (tell_from S k s instrs) ≡ events_from S s instrs
  plain-all k s [] = refl
  plain-all k s (i ∷ instrs) =
      let after = table S s i in
      let rest = tell_from S (k + 1) after.0 instrs in
      plain-joined (part_at S k s i) (parts_from S (k + 1) after.0 instrs)
      ∙ plain-part k s i (has_come S s i) rest refl
      ∙ ap (λ (more : List ℕ). told S i after ++ more) (plain-all (k + 1) after.0 instrs)

  -- And the instructions alone.

  third-glyph : (xs ys : List ℕ) → 0 < length xs → list_all is_glyph xs ≡ true → (slice_index_or (xs ++ ys) 0 32 == 32) ≡ false
  third-glyph [] ys some all = absurd (omega (arith, some))
  third-glyph (x ∷ xs) ys some all =
      let high : is_glyph x ≡ true = head-passes (is_glyph x) (list_all is_glyph xs) all in
      let apart : (x == 32) ≡ false = grind (arith, nat_tests) in
      apart

  instr-passes : (k : ℕ) (i : Instr) → k < 2 ^ 64 → is_instr_line (instr_said S k i) ≡ true
  instr-passes k i small =
      ap not (third-glyph (decimal k) (codes " " ++ join_with_byte 32 (instr_words S i)) (decimal_nonempty k small) (glyphs k))

  instr-reply : (now : ℕ) (i : Instr) (r : Reply) (b : Bool) (rest : List ℕ) → kept is_instr_line (cond b [] (event_line_at now (reply_words S i r)) ++ rest) ≡ kept is_instr_line rest
  instr-reply now i r true rest = refl
  instr-reply now i r false rest =
      let line = said S now i r in
      ap (λ (text : List ℕ). kept is_instr_line (text ++ rest)) (line_at-is S now i r)
      ∙ skip is_instr_line line rest (said-no_feed S scenario now i r) (ap (λ (b : Bool). b && not (slice_index_or line 2 32 == 32)) (said-unmarked S now i r))

  instr-one : (k now : ℕ) (i : Instr) (r : Reply) (changes : List Change) (rest : List ℕ) → k < 2 ^ 64
      → kept is_instr_line ((instr_line S k i ++ reply_line S now i r ++ change_lines S changes) ++ rest) ≡ instr_said S k i ∷ kept is_instr_line rest
  unfolding reply_line
  instr-one k now i r changes rest small =
      let line = reply_line S now i r in
      ap (kept is_instr_line) (parts k i line changes rest)
      ∙ keep is_instr_line (instr_said S k i) (line ++ (change_lines S changes ++ rest)) (said-whole k i) (instr-passes k i small)
      ∙ ap (λ (lines : List (List ℕ)). instr_said S k i ∷ lines)
      (instr-reply now i r (is_silent r) (change_lines S changes ++ rest) ∙ skip-changes is_instr_line S scenario (λ text. refl) changes rest)

  come-passes : (first last : ℕ) (i : Instr) (one : Bool) → first < 2 ^ 64 → is_instr_line (line_if first last i one) ≡ true
  come-passes first last i true small = instr-passes first i small
  come-passes first last i false small =
      ap not (third-glyph (decimal first) (codes " to " ++ (decimal last ++ (codes " " ++ (join_with_byte 32 (instr_words S i) ++ (codes ": " ++ come_words i))))) (decimal_nonempty first small) (glyphs first))

  -- of the part's lines the first alone is kept
  record Listed (part : Part) : Type 0 where
    pub each : (rest : List ℕ) → kept is_instr_line (part_text S part ++ rest) ≡ part_said S part ∷ kept is_instr_line rest
    pub small : part.first < 2 ^ 64

  listed-come : (part : Part) → part.come ≡ true → part.first < 2 ^ 64 → Listed part
  listed-come part come small =
      let one = part.first == part.last in
      let line = line_if part.first part.last part.instr one in
      record {
        each =
            λ rest.
            ap (λ (b : Bool). kept is_instr_line (cond b (come_text S part.first part.last part.instr) part.whole ++ rest)) come
            ∙ ap (λ (text : List ℕ). kept is_instr_line (text ++ rest)) (line-is part.first part.last part.instr one)
            ∙ keep is_instr_line line rest (line-whole part.first part.last part.instr one) (come-passes part.first part.last part.instr one small);
        small = small;
      }

  listed-at : (k : ℕ) (s : State) (i : Instr) (b : Bool) → k < 2 ^ 64 → Listed (part_if S k s i b)
  listed-at k s i true small = listed-come (part_if S k s i true) refl small
  listed-at k s i false small =
      let after = table S s i in
      let same : (k == k) ≡ true = grind (arith, nat_tests) in
      record {
        each =
            λ rest.
            instr-one k after.0.time i after.1 (hidden s after.0 after.1) rest small
            ∙ ap (λ (one : Bool). line_if k k i one ∷ kept is_instr_line rest) (sym same);
        small = small;
      }

  listed-joined : (part : Part) (parts : List Part) → Listed part → AllByRecursion Listed parts → AllByRecursion Listed (joined part parts)
  listed-joined part [] one all = (one, tt)
  listed-joined part (next ∷ others) one all = by (joins part next) refl where
    by : (b : Bool) → joins part next ≡ b → AllByRecursion Listed (cond b (record part { last = next.last } ∷ others) (part ∷ next ∷ others))
    by true j = (listed-come (record part { last = next.last }) (joins-come part next j).0 one.small, all.1)
    by false j = (one, all)

  listed-from : (k : ℕ) (s : State) (instrs : List Instr) → k + length instrs ≤ MAX_HISTORY → AllByRecursion Listed (parts_from S k s instrs)
  listed-from k s [] few = tt
  listed-from k s (i ∷ instrs) few =
      listed-joined (part_at S k s i) (parts_from S (k + 1) (table S s i).0 instrs) (listed-at k s i (has_come S s i) (omega (arith, few)))
      (listed-from (k + 1) (table S s i).0 instrs (omega (arith, few)))

  heads : (parts : List Part) → AllByRecursion Listed parts → kept is_instr_line (flat_map (part_text S) parts) ≡ map (part_said S) parts
  heads [] all = refl
  heads (part ∷ parts) all = all.0.each (flat_map (part_text S) parts) ∙ ap (λ (lines : List (List ℕ)). part_said S part ∷ lines) (heads parts all.1)

  pub instr-all : (k : ℕ) (s : State) (instrs : List Instr) → k + length instrs ≤ MAX_HISTORY → kept is_instr_line (tell_from S k s instrs) ≡ map (part_said S) (parts_from S k s instrs)
  instr-all k s instrs few = heads (parts_from S k s instrs) (listed-from k s instrs few)

-- Each number fits its type in the scenario that is run.
run-scenario : (settle : Bool) (S T : ScenarioContents) → IsScenario S → IsSettledIf settle S T → IsScenario T
run-scenario true S T scenario settled =
    let actor = settled.0 in
    let n = settled.1 in
    let is : T ≡ with_one_actor S (with_nexts n actor) = settled.4 ∙ settled-is S actor n settled.2.runs.alone in
    subst (λ (U : ScenarioContents). IsScenario U) (sym is) (settled-scenario S actor n settled.2.runs.alone scenario)
run-scenario false S T scenario same = subst (λ (U : ScenarioContents). IsScenario U) (sym same.0) scenario

-- The laws.

pub keeps-the-run : ((text : List ℕ) (S T : ScenarioContents) → Spells text S → Spells text T → S ≡ T) → KeepsTheRun
unfolding KeepsTheRun
keeps-the-run one text told printed tell run =
    let S = tell.0 in
    let T = tell.2.0 in
    let is = one text run.0 S run.1.spelled tell.1.spelled in
    let mine = subst (λ (U : ScenarioContents). IsTold U told) tell.2.1.0 tell.2.2 in
    let alone = subst (λ (U : ScenarioContents). U.actors ≡ run.2.0 ∷ []) is run.2.1.alone in
    let same = same_actor S mine.0 run.2.0 mine.1.alone alone in
    ap unmarked mine.2
    ∙ plain-all S tell.1.spelled.is_text.scenario 0 (start S) (expand mine.0)
    ∙ ap (λ (a : ActorContents). events S (expand a)) same
    ∙ ap (λ (U : ScenarioContents). events U (expand run.2.0)) (sym is)
    ∙ sym run.2.2

pub keeps-the-settled-run : ((text : List ℕ) (S T : ScenarioContents) → Spells text S → Spells text T → S ≡ T) → KeepsTheSettledRun
unfolding KeepsTheSettledRun
keeps-the-settled-run one text told printed tell run =
    let S = tell.0 in
    let T = tell.2.0 in
    let settled : IsSettled S T = tell.2.1 in
    let actor = settled.0 in
    let n = settled.1 in
    let longer = with_nexts n actor in
    let at : T ≡ with_one_actor S longer = settled.4 ∙ settled-is S actor n settled.2.runs.alone in
    let a = tell.2.2.0 in
    let alone = subst (λ (U : ScenarioContents). U.actors ≡ a ∷ []) at tell.2.2.1.alone in
    let same : a ≡ longer = same_actor (with_one_actor S longer) a longer alone refl in
    let output = subst (λ (U : ScenarioContents). IsSettledOutput U printed) (one text run.0 S run.1.spelled tell.1.spelled) run.2 in
    let both = settled-once S output.0 actor output.1 n output.2 settled.2 in
    ap unmarked tell.2.2.2
    ∙ plain-all T (run-scenario true S T tell.1.spelled.is_text.scenario settled) 0 (start T) (expand a)
    ∙ ap (λ (U : ScenarioContents). events U (expand a)) at
    ∙ ap (λ (b : ActorContents). events (with_one_actor S longer) (expand b)) same
    ∙ same-events S longer (expand longer)
    ∙ ap (λ (instrs : List Instr). events S instrs) (expand-with_nexts n actor)
    ∙ sym (output.3 ∙ ap (λ (b : ActorContents). events S (followed b output.1)) both.0 ∙ ap (λ (m : ℕ). events S (followed actor m)) both.1)

pub lists-each-part : ((text : List ℕ) (S T : ScenarioContents) → Spells text S → Spells text T → S ≡ T) → ListsEachPart
unfolding ListsEachPart
lists-each-part one settle text told S T actor tell spells settled alone =
    let same = one text tell.0 S tell.1.spelled spells in
    let mine = subst (λ (U : ScenarioContents). IsToldIf settle U told) same tell.2 in
    let is = settled_if-once S settle mine.0 T mine.1 settled in
    let run = subst (λ (U : ScenarioContents). IsTold U told) is mine.2 in
    let acts = same_actor T run.0 actor run.1.alone alone in
    ap (λ (t : List ℕ). filter is_instr_line (lines_of t)) run.2
    ∙ instr-all T (run-scenario settle S T spells.is_text.scenario settled) 0 (start T) (expand run.0) (omega (arith, run.1.few))
    ∙ ap (λ (a : ActorContents). map (part_said T) (parts_from T 0 (start T) (expand a))) acts
