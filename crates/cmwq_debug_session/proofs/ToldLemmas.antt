-- What is said to lines, one part after another.
use Rattle.std.proofs.Common.{◌≡◌, ℕ, suc, Bool, cond, ◌+◌, ◌-◌, ◌<◌, ◌≤◌, false, true, List, [], ◌∷◌, ◌++◌, length, take, drop, Option, None, Some, arith, refl, sym, ap, ◌∙◌, subst, append_assoc, append-nil, length-append, IfSome, Result, Err, ◌↔◌}
use Rattle.std.proofs.lemmas.List.Splits.{length-slice_split, slice_split_at, slice_split_none}
use Rattle.std.proofs.lemmas.Bool.Decides.{nat_tests}
use Rattle.std.proofs.lemmas.Grind.{common_steps}
use Rattle.std.proofs.lemmas.List.{drop-drop, drop-take, length-drop, take-append-drop, take_rest}
use Rattle.std.specs.Io.KnownBytes.{Appends, Consumes, IsAtEnd}
use Rattle.std.specs.List.{slice_split}
use Rattle.std.specs.Prelude.{◌==◌, is_some, slice_index_or}
use Rattle.cmwq_types.specs.Contents.{ActorContents, ScenarioContents}
use Rattle.cmwq_types.specs.Scenario.{expand}
use Rattle.cmwq_types.specs.declared.limits.TheConstants.{MAX_TEXT}
use Rattle.cmwq_grammar.specs.Cutting.{lines_of, without_empty_last}
use Rattle.cmwq_debug.specs.Debugging.{Session, opened}
use Rattle.cmwq_debug_lines.specs.Prompt.{ending, line_told, lines_said, said_before, text_said}
use Rattle.cmwq_debug_lines.specs.declared.manner.Manner.{Manner}
use Rattle.cmwq_play.specs.Commands.{Reads}
use Rattle.cmwq_streams.specs.Sending.{HasSentFront}
use Rattle.cmwq_streams.specs.declared.error.PlayError.{PlayError}
use Rattle.cmwq_streams.specs.declared.error.PlayError.TheVariants.{Read}
use Rattle.cmwq_debug_session.specs.Told.{HasNoLine, IsAnswered, Told, ToldFront, ToldToItsEnd}
use Rattle.cmwq_streams.proofs.CallerLemmas.{appends_both, appends_none, front_of_more}

-- Cutting off a line.

without_empty_last-more : (piece : List ℕ) (pieces : List (List ℕ)) → 0 < length pieces → without_empty_last (piece ∷ pieces) ≡ piece ∷ without_empty_last pieces
without_empty_last-more piece [] more = absurd (omega arith)
without_empty_last-more piece (next ∷ pieces) more = refl

pub lines_of-cut : (line rest : List ℕ) → HasNoLine line → lines_of (line ++ 10 ∷ rest) ≡ line ∷ lines_of rest
lines_of-cut line rest one =
    ap without_empty_last (slice_split_at (λ byte. byte == 10) line 10 rest one refl)
    ∙ without_empty_last-more line (slice_split (λ byte. byte == 10) rest) (omega (arith, length-slice_split (λ (byte : ℕ). byte == 10) rest))

-- of what is said to a line and those behind it, a front of what is said to the line
front_said : (before after : Option (List ℕ)) (said : Option (List ℕ)) (rest : List ℕ) → HasSentFront before after (text_said said) → HasSentFront before after (said_before said rest)
front_said before after (Some text) rest front = front_of_more before after text rest front
front_said before after None rest front = front

-- what is said where the session goes on
said_some : (said : Option (List ℕ)) → is_some said ≡ true → said ≡ Some (text_said said)
said_some (Some text) goes_on = refl
said_some None goes_on = cc

said_none : (said : Option (List ℕ)) → is_some said ≡ false → said ≡ None
said_none (Some text) ends = cc
said_none None ends = refl

module _ (M : Manner) (S : ScenarioContents) where
  -- nothing was said to nothing
  pub told_nothing : (now : Option (List ℕ)) (d : Session) → Told now now M S d [] d
  told_nothing now d = ([], appends_none now, λ more. refl)

  -- one line, with its line feed
  pub told_line : (before after : Option (List ℕ)) (d : Session) (line said : List ℕ) → HasNoLine line → (line_told M S d line).1 ≡ Some said → Appends before after said
      → Told before after M S d (line ++ 10 ∷ []) (line_told M S d line).0
  told_line before after d line said one is sent = (
    said,
    sent,
    λ more.
        ap (λ (bytes : List ℕ). lines_said M S d (lines_of bytes)) (append_assoc line (10 ∷ []) more) ∙ ap (lines_said M S d) (lines_of-cut line more one)
        ∙ ap (λ (first : Option (List ℕ)). said_before first (lines_said M S (line_told M S d line).0 (lines_of more))) is,
  )

  -- a line that ends the session
  pub ended_line : (before after : Option (List ℕ)) (d : Session) (line rest : List ℕ) → HasNoLine line → is_some (line_told M S d line).1 ≡ false → Appends before after (text_said (line_told M S d line).1)
      → ToldToItsEnd before after M S d (line ++ 10 ∷ rest)
  ended_line before after d line rest one ends sent more =
      let none : (line_told M S d line).1 ≡ None = said_none (line_told M S d line).1 ends in
      subst (λ (text : List ℕ). Appends before after text)
      (ap text_said none
      ∙ sym (ap (λ (bytes : List ℕ). lines_said M S d (lines_of bytes)) (append_assoc line (10 ∷ rest) more) ∙ ap (lines_said M S d) (lines_of-cut line (rest ++ more) one)
      ∙ ap (λ (first : Option (List ℕ)). said_before first (lines_said M S (line_told M S d line).0 (lines_of (rest ++ more)))) none))
      sent

  -- some lines and then others
  pub told_both : (before now after : Option (List ℕ)) (d e f : Session) (first second : List ℕ) → Told before now M S d first e → Told now after M S e second f → Told before after M S d (first ++ second) f
  told_both before now after d e f first second a b = (
    a.0 ++ b.0,
    appends_both before now after a.0 b.0 a.1 b.1,
    λ more.
        ap (λ (bytes : List ℕ). lines_said M S d (lines_of bytes)) (append_assoc first second more) ∙ a.2 (second ++ more)
        ∙ ap (λ (rest : List ℕ). a.0 ++ rest) (b.2 more) ∙ sym (append_assoc a.0 b.0 (lines_said M S f (lines_of more))),
  )

  -- some lines, and then a front of what is said to more
  pub told_then_front : (before now after : Option (List ℕ)) (d e : Session) (first rest : List ℕ) → Told before now M S d first e → ToldFront now after M S e rest → ToldFront before after M S d (first ++ rest)
  told_then_front before now after d e first rest a front more =
      let b = front more in (
        a.0 ++ b.0,
        b.1,
        appends_both before now after a.0 b.0 a.1 b.2,
        append_assoc a.0 b.0 b.1 ∙ ap (λ (bytes : List ℕ). a.0 ++ bytes) b.3 ∙ sym (a.2 (rest ++ more))
            ∙ sym (ap (λ (bytes : List ℕ). lines_said M S d (lines_of bytes)) (append_assoc first rest more)),
      )

  -- some lines, and then more, of which one ends the session
  pub told_then_ended : (before now after : Option (List ℕ)) (d e : Session) (first rest : List ℕ) → Told before now M S d first e → ToldToItsEnd now after M S e rest → ToldToItsEnd before after M S d (first ++ rest)
  told_then_ended before now after d e first rest a ended more =
      subst (λ (text : List ℕ). Appends before after text)
      (sym (ap (λ (bytes : List ℕ). lines_said M S d (lines_of bytes)) (append_assoc first rest more) ∙ a.2 (rest ++ more)))
      (appends_both before now after a.0 (lines_said M S e (lines_of (rest ++ more))) a.1 (ended more))

  -- a front of what is said to a line
  pub front_line : (before after : Option (List ℕ)) (d : Session) (line rest : List ℕ) → HasNoLine line → HasSentFront before after (text_said (line_told M S d line).1) → ToldFront before after M S d (line ++ 10 ∷ rest)
  front_line before after d line rest one front more =
      subst (λ (text : List ℕ). HasSentFront before after text)
      (sym (ap (λ (bytes : List ℕ). lines_said M S d (lines_of bytes)) (append_assoc line (10 ∷ rest) more) ∙ ap (lines_said M S d) (lines_of-cut line (rest ++ more) one)))
      (front_said before after (line_told M S d line).1 (lines_said M S (line_told M S d line).0 (lines_of (rest ++ more))) front)

  -- nothing more than what was said to whole lines
  pub told_front : (before after : Option (List ℕ)) (d e : Session) (first rest : List ℕ) → Told before after M S d first e → ToldFront before after M S d (first ++ rest)
  told_front before after d e first rest a more = (
    a.0,
    lines_said M S e (lines_of (rest ++ more)),
    a.1,
    sym (a.2 (rest ++ more)) ∙ sym (ap (λ (bytes : List ℕ). lines_said M S d (lines_of bytes)) (append_assoc first rest more)),
  )

-- The text that was heard.

take_plus : (n m : ℕ) (xs : List ℕ) → take (n + m) xs ≡ take n xs ++ take m (drop n xs)
take_plus n m xs =
    let front : take n (take (n + m) xs) ≡ take n xs = grind (arith, common_steps) in
    sym (take-append-drop n (take (n + m) xs)) ∙ ap (λ (rest : List ℕ). take n (take (n + m) xs) ++ rest) (drop-take n m xs)
    ∙ ap (λ (first : List ℕ). first ++ take m (drop n xs)) front

-- one line more of the text
pub line_more : (text rest : List ℕ) (taken n : ℕ) → rest ≡ drop taken text → take (n + 1) rest ≡ take n rest ++ 10 ∷ [] → take (taken + (n + 1)) text ≡ take taken text ++ (take n rest ++ 10 ∷ [])
line_more text rest taken n is whole =
    take_plus taken (n + 1) text ∙ ap (λ (more : List ℕ). take taken text ++ more) (ap (take (n + 1)) (sym is) ∙ whole)

-- the text around the line
pub line_within : (text rest : List ℕ) (taken n : ℕ) → rest ≡ drop taken text → take (n + 1) rest ≡ take n rest ++ 10 ∷ [] → take taken text ++ (take n rest ++ 10 ∷ drop (n + 1) rest) ≡ text
line_within text rest taken n is whole =
    let split : take n rest ++ 10 ∷ drop (n + 1) rest ≡ rest =
    sym (append_assoc (take n rest) (10 ∷ []) (drop (n + 1) rest)) ∙ ap (λ (front : List ℕ). front ++ drop (n + 1) rest) (sym whole) ∙ take-append-drop (n + 1) rest in
    ap (λ (more : List ℕ). take taken text ++ more) (split ∙ is) ∙ take-append-drop taken text

-- the text up to a place, and one line more
pub told_step : (M : Manner) (S : ScenarioContents) (before now after : Option (List ℕ)) (d e f : Session) (text rest : List ℕ) (done n : ℕ) → rest ≡ drop done text
    → take (n + 1) rest ≡ take n rest ++ 10 ∷ [] → HasNoLine (take n rest) → Told before now M S d (take done text) e → f ≡ (line_told M S e (take n rest)).0
    → is_some (line_told M S e (take n rest)).1 ≡ true → Appends now after (text_said (line_told M S e (take n rest)).1) → Told before after M S d (take (done + (n + 1)) text) f
told_step M S before now after d e f text rest done n is whole one so_far stands goes_on sent =
    let said = (line_told M S e (take n rest)).1 in
    let line : Told now after M S e (take n rest ++ 10 ∷ []) f =
    subst (λ (to : Session). Told now after M S e (take n rest ++ 10 ∷ []) to) (sym stands) (told_line M S now after e (take n rest) (text_said said) one (said_some said goes_on) sent) in
    subst (λ (all : List ℕ). Told before after M S d all f) (sym (line_more text rest done n is whole))
    (told_both M S before now after d e f (take done text) (take n rest ++ 10 ∷ []) so_far line)

consumes_both : (before now after : Option (List ℕ)) (xs ys : List ℕ) → Consumes before now xs → Consumes now after ys → Consumes before after (xs ++ ys)
consumes_both None now after xs ys first second = tt
consumes_both (Some b) None after xs ys first second = absurd first
consumes_both (Some b) (Some n) None xs ys first second = absurd second
consumes_both (Some b) (Some n) (Some a) xs ys first second = first ∙ ap (λ (rest : List ℕ). xs ++ rest) second ∙ sym (append_assoc xs ys a)

pub consumes_nothing : (now : Option (List ℕ)) → Consumes now now []
consumes_nothing None = tt
consumes_nothing (Some n) = refl

pub consumes_more : (before now after : Option (List ℕ)) (text more both : List ℕ) → Consumes before now text → Consumes now after more → both ≡ text ++ more → Consumes before after both
consumes_more before now after text more both first second is = subst (λ (xs : List ℕ). Consumes before after xs) (sym is) (consumes_both before now after text more first second)

-- what was answered of a text, once more was heard
pub taken_before : (text more both : List ℕ) (done : ℕ) → done ≤ length text → both ≡ text ++ more → take done both ≡ take done text
taken_before text more both done within is = ap (take done) is ∙ front where
  front : take done (text ++ more) ≡ take done text
  front = grind (arith, common_steps)

-- an input of which a text was heard
pub front_known : (input left : Option (List ℕ)) (before after : Option (List ℕ)) (M : Manner) (S : ScenarioContents) (d : Session) (text : List ℕ) → Consumes input left text → ToldFront before after M S d text
    → IfSome input (λ bytes. HasSentFront before after (lines_said M S d (lines_of bytes)))
front_known None left before after M S d text heard front = tt
front_known (Some bytes) None before after M S d text heard front = absurd heard
front_known (Some bytes) (Some rest) before after M S d text heard front =
    subst (λ (all : List ℕ). HasSentFront before after (lines_said M S d (lines_of all))) (sym heard) (front rest)

pub whole_known : (input left : Option (List ℕ)) (before after : Option (List ℕ)) (M : Manner) (S : ScenarioContents) (d : Session) (text : List ℕ) → Consumes input left text → IsAtEnd left
    → Appends before after (lines_said M S d (lines_of text)) → IfSome input (λ bytes. Appends before after (lines_said M S d (lines_of bytes)))
whole_known None left before after M S d text heard ends sent = tt
whole_known (Some bytes) None before after M S d text heard ends sent = absurd heard
whole_known (Some bytes) (Some rest) before after M S d text heard ends sent =
    subst (λ (all : List ℕ). Appends before after (lines_said M S d (lines_of all))) (sym (heard ∙ ap (λ (last : List ℕ). text ++ last) ends ∙ append-nil text)) sent

pub long_known : (input left : Option (List ℕ)) (text : List ℕ) (n : ℕ) → Consumes input left text → n < length text → IfSome input (λ bytes. n < length bytes)
long_known None left text n heard long = tt
long_known (Some bytes) None text n heard long = absurd heard
long_known (Some bytes) (Some rest) text n heard long =
    let count = ap length heard ∙ length-append text rest in
    omega arith

few_known : (input mid left : Option (List ℕ)) (text : List ℕ) → Consumes input mid text
    → IfSome mid (λ bytes. IfSome left (λ rest. length bytes + length text ≤ length rest + MAX_TEXT + 1))
    → IfSome input (λ bytes. IfSome left (λ rest. length bytes ≤ length rest + MAX_TEXT + 1))
few_known None mid left text heard few = tt
few_known (Some bytes) None left text heard few = absurd heard
few_known (Some bytes) (Some now) None text heard few = tt
few_known (Some bytes) (Some now) (Some rest) text heard few =
    let count = ap length heard ∙ length-append text now in
    omega (arith, few)

-- one more read, of an input of which a text was heard before
pub reads_more : (input mid left : Option (List ℕ)) (failed : Bool) (text : List ℕ) (r : Result ℕ PlayError) → Consumes input mid text
    → IfSome mid (λ bytes. IfSome left (λ rest. length bytes + length text ≤ length rest + MAX_TEXT + 1))
    → ((r ≡ Err Read) ↔ (failed ≡ true)) → Reads {A = ℕ} input left failed r
reads_more input mid left failed text r heard few read = record { read = read; few = few_known input mid left text heard few }

-- what is left behind a place, as it is lent
pub lent_is : (text both : List ℕ) (done : ℕ) → text ≡ both → take (length text - done) (drop done text) ≡ drop done both
lent_is text both done is = take_rest text done ∙ ap (drop done) is

-- The last line, which no line feed ends.

without_empty_last-one : (byte : ℕ) (bytes : List ℕ) → without_empty_last ((byte ∷ bytes) ∷ []) ≡ (byte ∷ bytes) ∷ []
without_empty_last-one byte bytes =
    let filled : (suc (length bytes) == 0) ≡ false = grind (arith, nat_tests) in
    ap (λ (empty : Bool). cond empty [] ((byte ∷ bytes) ∷ [])) filled

pub lines_of-one : (text : List ℕ) → HasNoLine text → 0 < length text → lines_of text ≡ text ∷ []
lines_of-one [] one some = absurd (omega arith)
lines_of-one (byte ∷ bytes) one some = ap without_empty_last (slice_split_none (λ byte. byte == 10) (byte ∷ bytes) one) ∙ without_empty_last-one byte bytes

pub last_said : (M : Manner) (S : ScenarioContents) (d : Session) (text : List ℕ) → HasNoLine text → 0 < length text
    → lines_said M S d (lines_of text) ≡ said_before (line_told M S d text).1 (ending M)
last_said M S d text one some = ap (lines_said M S d) (lines_of-one text one some)

-- the commands end with a whole line
pub nothing_left : (M : Manner) (S : ScenarioContents) (d : Session) (text : List ℕ) → length text ≡ 0 → lines_said M S d (lines_of text) ≡ ending M
nothing_left M S d [] none = refl
nothing_left M S d (byte ∷ bytes) none = absurd (omega (arith, none))

module _ (M : Manner) (S : ScenarioContents) (before now after : Option (List ℕ)) (d : Session) (text : List ℕ) (one : HasNoLine text) (some : 0 < length text) where
  -- the last line ended the session
  pub ended_last : is_some (line_told M S d text).1 ≡ false → Appends before after (text_said (line_told M S d text).1) → Appends before after (lines_said M S d (lines_of text))
  ended_last ends sent =
      let none : (line_told M S d text).1 ≡ None = said_none (line_told M S d text).1 ends in
      subst (λ (said : List ℕ). Appends before after said)
      (ap text_said none ∙ sym (last_said M S d text one some ∙ ap (λ (first : Option (List ℕ)). said_before first (ending M)) none)) sent

  -- it didn't, and the end was told
  pub told_last : is_some (line_told M S d text).1 ≡ true → Appends before now (text_said (line_told M S d text).1) → Appends now after (ending M) → Appends before after (lines_said M S d (lines_of text))
  told_last goes_on sent told =
      let is : (line_told M S d text).1 ≡ Some (text_said (line_told M S d text).1) = said_some (line_told M S d text).1 goes_on in
      subst (λ (said : List ℕ). Appends before after said)
      (sym (last_said M S d text one some ∙ ap (λ (first : Option (List ℕ)). said_before first (ending M)) is))
      (appends_both before now after (text_said (line_told M S d text).1) (ending M) sent told)

  -- a front of what is said to it
  pub front_last : HasSentFront before after (text_said (line_told M S d text).1) → HasSentFront before after (lines_said M S d (lines_of text))
  front_last front =
      subst (λ (said : List ℕ). HasSentFront before after said) (sym (last_said M S d text one some)) (front_said before after (line_told M S d text).1 (ending M) front)

  -- and of the end
  pub front_end : is_some (line_told M S d text).1 ≡ true → Appends before now (text_said (line_told M S d text).1) → HasSentFront now after (ending M) → HasSentFront before after (lines_said M S d (lines_of text))
  front_end goes_on sent front =
      let said = text_said (line_told M S d text).1 in
      let is : (line_told M S d text).1 ≡ Some said = said_some (line_told M S d text).1 goes_on in
      subst (λ (all : List ℕ). HasSentFront before after all)
      (sym (last_said M S d text one some ∙ ap (λ (first : Option (List ℕ)). said_before first (ending M)) is))
      (said ++ front.0, front.1, appends_both before now after said front.0 sent front.2, append_assoc said front.0 front.1 ∙ ap (λ (last : List ℕ). said ++ last) front.3)

-- Between two reads.

pub answered_start : (input now : Option (List ℕ)) (M : Manner) (S : ScenarioContents) (d : Session) → IsAnswered input input now now M S d [] 0 d
answered_start input now M S d = record {
  heard = consumes_nothing input;
  short = omega arith;
  within = omega arith;
  told = told_nothing M S now d;
  begun = λ k y less. absurd (omega (arith, less));
}

-- more was heard, and its whole lines were answered
pub answered_more : (input mid left before now after : Option (List ℕ)) (M : Manner) (S : ScenarioContents) (d e f : Session) (text more both rest : List ℕ) (done taken : ℕ)
    → IsAnswered input mid before now M S d text done e → Consumes mid left more → both ≡ text ++ more → length both ≤ MAX_TEXT → rest ≡ drop done both
    → Told now after M S e (take taken rest) f → taken ≤ length rest → HasNoLine (drop taken rest) → IsAnswered input left before after M S d both (done + taken) f
answered_more input mid left before now after M S d e f text more both rest done taken so_far heard is short behind told within begun =
    let same : take done both ≡ take done text = taken_before text more both done so_far.within is in
    let grown = ap length is ∙ length-append text more in
    let left_over : length rest ≡ length both - done = ap length behind ∙ length-drop done both in
    record {
      heard = consumes_more input mid left text more both so_far.heard heard is;
      short = short;
      within = let before_more = so_far.within in omega arith;
      told = subst (λ (all : List ℕ). Told before after M S d all f) (sym (take_plus done taken both ∙ ap (λ (last : List ℕ). take done both ++ last) (ap (take taken) (sym behind))))
          (told_both M S before now after d e f (take done both) (take taken rest) (subst (λ (all : List ℕ). Told before now M S d all e) (sym same) so_far.told) told);
      begun = subst HasNoLine (ap (drop taken) behind ∙ drop-drop taken done both) begun;
    }

-- an error after more was heard, while its lines were answered
pub front_more_heard : (input mid left before now after : Option (List ℕ)) (M : Manner) (S : ScenarioContents) (d e : Session) (text more both rest : List ℕ) (done : ℕ)
    → IsAnswered input mid before now M S d text done e → Consumes mid left more → both ≡ text ++ more → rest ≡ drop done both → ToldFront now after M S e rest
    → IfSome input (λ bytes. HasSentFront before after (lines_said M S d (lines_of bytes)))
front_more_heard input mid left before now after M S d e text more both rest done so_far heard is behind front =
    let same : take done both ≡ take done text = taken_before text more both done so_far.within is in
    let joined : take done both ++ rest ≡ both = ap (λ (last : List ℕ). take done both ++ last) behind ∙ take-append-drop done both in
    front_known input left before after M S d both (consumes_more input mid left text more both so_far.heard heard is)
    (subst (λ (all : List ℕ). ToldFront before after M S d all) joined
    (told_then_front M S before now after d e (take done both) rest (subst (λ (all : List ℕ). Told before now M S d all e) (sym same) so_far.told) front))

-- an input of which a line that was heard ended the session
ended_known : (input left : Option (List ℕ)) (before after : Option (List ℕ)) (M : Manner) (S : ScenarioContents) (d : Session) (text : List ℕ) → Consumes input left text → ToldToItsEnd before after M S d text
    → IfSome input (λ bytes. Appends before after (lines_said M S d (lines_of bytes)))
ended_known None left before after M S d text heard ended = tt
ended_known (Some bytes) None before after M S d text heard ended = absurd heard
ended_known (Some bytes) (Some rest) before after M S d text heard ended =
    subst (λ (all : List ℕ). Appends before after (lines_said M S d (lines_of all))) (sym heard) (ended rest)

-- more was heard, and a line of it ended the session
pub ended_more_heard : (input mid left before now after : Option (List ℕ)) (M : Manner) (S : ScenarioContents) (d e : Session) (text more both rest : List ℕ) (done : ℕ)
    → IsAnswered input mid before now M S d text done e → Consumes mid left more → both ≡ text ++ more → rest ≡ drop done both → ToldToItsEnd now after M S e rest
    → IfSome input (λ bytes. Appends before after (lines_said M S d (lines_of bytes)))
ended_more_heard input mid left before now after M S d e text more both rest done so_far heard is behind ended =
    let same : take done both ≡ take done text = taken_before text more both done so_far.within is in
    let joined : take done both ++ rest ≡ both = ap (λ (last : List ℕ). take done both ++ last) behind ∙ take-append-drop done both in
    ended_known input left before after M S d both (consumes_more input mid left text more both so_far.heard heard is)
    (subst (λ (all : List ℕ). ToldToItsEnd before after M S d all) joined
    (told_then_ended M S before now after d e (take done both) rest (subst (λ (all : List ℕ). Told before now M S d all e) (sym same) so_far.told) ended))

-- an error before more was answered
pub front_so_far : (input mid before now : Option (List ℕ)) (M : Manner) (S : ScenarioContents) (d e : Session) (text : List ℕ) (done : ℕ)
    → IsAnswered input mid before now M S d text done e → IfSome input (λ bytes. HasSentFront before now (lines_said M S d (lines_of bytes)))
front_so_far input mid before now M S d e text done so_far =
    front_known input mid before now M S d text so_far.heard
    (subst (λ (all : List ℕ). ToldFront before now M S d all) (take-append-drop done text) (told_front M S before now d e (take done text) (drop done text) so_far.told))

-- the end was heard, and the last line answered
pub told_whole : (input mid left before now after : Option (List ℕ)) (M : Manner) (S : ScenarioContents) (d e : Session) (text more both rest : List ℕ) (done : ℕ)
    → IsAnswered input mid before now M S d text done e → Consumes mid left more → both ≡ text ++ more → rest ≡ drop done both → IsAtEnd left
    → Appends now after (lines_said M S e (lines_of rest)) → IfSome input (λ bytes. Appends before after (lines_said M S d (lines_of bytes)))
told_whole input mid left before now after M S d e text more both rest done so_far heard is behind ends sent =
    let same : take done both ≡ take done text = taken_before text more both done so_far.within is in
    let joined : take done both ++ rest ≡ both = ap (λ (last : List ℕ). take done both ++ last) behind ∙ take-append-drop done both in
    let told : Told before now M S d (take done both) e = subst (λ (all : List ℕ). Told before now M S d all e) (sym same) so_far.told in
    whole_known input left before after M S d both (consumes_more input mid left text more both so_far.heard heard is) ends
    (subst (λ (all : List ℕ). Appends before after (lines_said M S d (lines_of all))) joined
    (subst (λ (said : List ℕ). Appends before after said) (sym (told.2 rest)) (appends_both before now after told.0 (lines_said M S e (lines_of rest)) told.1 sent)))

front_at_end : (input left : Option (List ℕ)) (before after : Option (List ℕ)) (M : Manner) (S : ScenarioContents) (d : Session) (text : List ℕ) → Consumes input left text → IsAtEnd left
    → HasSentFront before after (lines_said M S d (lines_of text)) → IfSome input (λ bytes. HasSentFront before after (lines_said M S d (lines_of bytes)))
front_at_end None left before after M S d text heard ends sent = tt
front_at_end (Some bytes) None before after M S d text heard ends sent = absurd heard
front_at_end (Some bytes) (Some rest) before after M S d text heard ends sent =
    subst (λ (all : List ℕ). HasSentFront before after (lines_said M S d (lines_of all))) (sym (heard ∙ ap (λ (last : List ℕ). text ++ last) ends ∙ append-nil text)) sent

-- an error while the last line was answered
pub front_whole : (input mid left before now after : Option (List ℕ)) (M : Manner) (S : ScenarioContents) (d e : Session) (text more both rest : List ℕ) (done : ℕ)
    → IsAnswered input mid before now M S d text done e → Consumes mid left more → both ≡ text ++ more → rest ≡ drop done both → IsAtEnd left
    → HasSentFront now after (lines_said M S e (lines_of rest)) → IfSome input (λ bytes. HasSentFront before after (lines_said M S d (lines_of bytes)))
front_whole input mid left before now after M S d e text more both rest done so_far heard is behind ends sent =
    let same : take done both ≡ take done text = taken_before text more both done so_far.within is in
    let joined : take done both ++ rest ≡ both = ap (λ (last : List ℕ). take done both ++ last) behind ∙ take-append-drop done both in
    let told : Told before now M S d (take done both) e = subst (λ (all : List ℕ). Told before now M S d all e) (sym same) so_far.told in
    front_at_end input left before after M S d both (consumes_more input mid left text more both so_far.heard heard is) ends
    (subst (λ (all : List ℕ). HasSentFront before after (lines_said M S d (lines_of all))) joined
    (subst (λ (said : List ℕ). HasSentFront before after said) (sym (told.2 rest))
    (told.0 ++ sent.0, sent.1, appends_both before now after told.0 sent.0 told.1 sent.2, append_assoc told.0 sent.0 sent.1 ∙ ap (λ (last : List ℕ). told.0 ++ last) sent.3)))

-- a debugger of the first actor is one of the one actor
pub opened_is : (S : ScenarioContents) (first actor : ActorContents) (d : Session) → first ≡ slice_index_or S.actors 0 first → d ≡ opened S (expand first) → S.actors ≡ actor ∷ [] → d ≡ opened S (expand actor)
opened_is S first actor d is stands alone =
    stands ∙ ap (λ (of : ActorContents). opened S (expand of)) (is ∙ ap (λ (actors : List ActorContents). slice_index_or actors 0 first) alone)

-- What is said before anything is read, and then to the input.

pub told_behind : (M : Manner) (S : ScenarioContents) (input before begun after : Option (List ℕ)) (d : Session) (first : List ℕ) → Appends before begun first
    → IfSome input (λ bytes. Appends begun after (lines_said M S d (lines_of bytes))) → IfSome input (λ bytes. Appends before after (first ++ lines_said M S d (lines_of bytes)))
told_behind M S None before begun after d first sent told = tt
told_behind M S (Some bytes) before begun after d first sent told = appends_both before begun after first (lines_said M S d (lines_of bytes)) sent told

pub front_behind : (M : Manner) (S : ScenarioContents) (input before begun after : Option (List ℕ)) (d : Session) (first : List ℕ) → Appends before begun first
    → IfSome input (λ bytes. HasSentFront begun after (lines_said M S d (lines_of bytes))) → IfSome input (λ bytes. HasSentFront before after (first ++ lines_said M S d (lines_of bytes)))
front_behind M S None before begun after d first sent front = tt
front_behind M S (Some bytes) before begun after d first sent front =
    (first ++ front.0, front.1, appends_both before begun after first front.0 sent front.2, append_assoc first front.0 front.1 ∙ ap (λ (last : List ℕ). first ++ last) front.3)

pub front_first : (M : Manner) (S : ScenarioContents) (input before after : Option (List ℕ)) (d : Session) (first : List ℕ) → HasSentFront before after first
    → IfSome input (λ bytes. HasSentFront before after (first ++ lines_said M S d (lines_of bytes)))
front_first M S None before after d first front = tt
front_first M S (Some bytes) before after d first front = front_of_more before after first (lines_said M S d (lines_of bytes)) front
