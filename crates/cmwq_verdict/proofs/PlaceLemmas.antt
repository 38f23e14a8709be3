-- Where words stand in a line, where lines begin, and what an answer of the assembler says of a fault.
use Rattle.std.proofs.Common.{◌≡◌, ◌≢◌, ℕ, zero, suc, ◌+◌, ◌-◌, ◌<◌, ◌≤◌, ◌⊎◌, inl, inr, Bool, true, false, cond, eqb, List, [], ◌∷◌, ◌++◌, length, get_or, drop, arith, length-append, ap, sym, ◌∙◌, refl, subst, Some, Result, Ok, Err}
use Rattle.std.proofs.lemmas.List.{drop_all, drop_more}
use Rattle.std.proofs.lemmas.Option.{slice_get-get_or}
use Rattle.std.specs.List.{list_any, slice_get}
use Rattle.std.specs.Str.{bytes_eq}
use Rattle.cmwq_verdict.specs.OfferLines.{spelled}
use Rattle.cmwq_verdict.specs.declared.first_words.FirstWord.{FirstWord}
use Rattle.std.specs.Prelude.{◌||◌, IfOk, MatchResult, map}
use Rattle.cmwq_types.specs.Contents.{ScenarioContents}
use Rattle.cmwq_grammar.specs.Cutting.{lines_of}
use Rattle.cmwq_grammar.specs.FaultLaw.{IsFault}
use Rattle.cmwq_grammar.specs.Meaning.{FaultAt, fault_at}
use Rattle.cmwq_grammar.specs.declared.why.Why.{Why}
use Rattle.cmwq_asm.specs.declared.fault.AsmError.{AsmError}
use Rattle.cmwq_asm.specs.declared.fault.AsmError.TheVariants as asm
use Rattle.cmwq_grammar.specs.declared.why.Why.TheVariants as why
use Rattle.cmwq_scan.specs.Words.{StandsIn, Word}
use Rattle.cmwq_verdict.specs.FaultPlaces.{AreWordsOf, IsNotBefore, IsPlace, IsPlaceAmong, cut_behind, line_start, start_of}
use Rattle.cmwq_verdict.specs.declared.places.FaultPlace.{FaultPlace}
use Rattle.cmwq_verdict.specs.declared.places.FaultPlace.TheVariants as place

-- a word ends within its line
pub within : (part : List ℕ) (word : Word) → StandsIn part word → (1 ≤ word.column) × (word.column + length word.bytes ≤ length part + 1)
within part word stands =
    let first = length-append (stands.front ++ word.bytes) stands.behind in
    let second : length (stands.front ++ word.bytes) ≡ length stands.front + length word.bytes = length-append stands.front word.bytes in
    let whole = ap length stands.parts in
    let column : word.column ≡ length stands.front + 1 = stands.column in
    (omega arith, omega arith)

pub none_behind : (word : List ℕ) (count : ℕ) → length word ≤ count → drop count word ≡ []
none_behind word count short = drop_all count word short

abbrev Tells : List ℕ → Result ScenarioContents AsmError → Type 0
Tells text r = (fault : FaultAt) → IsFault text fault → MatchResult r (λ s. ⊥) (λ e. (e ≡ asm.At fault.line fault.why) ⊎ (e ≡ asm.NoMemory))

-- what is assembled has no fault
pub no_fault : (text : List ℕ) (r : Result ScenarioContents AsmError) (S : ScenarioContents) → r ≡ Ok S → Tells text r → (fault : FaultAt) → IsFault text fault → ⊥
no_fault text (Ok S) T is tells fault faulty = tells fault faulty
no_fault text (Err e) T is tells fault faulty = cc

-- and what is told is its only fault
pub only_fault : (text : List ℕ) (r : Result ScenarioContents AsmError) (line : ℕ) (why : Why) → r ≡ Err (asm.At line why) → Tells text r
    → (fault : FaultAt) → IsFault text fault → fault_at line why ≡ fault
only_fault text (Ok S) line why is tells fault faulty = cc
only_fault text (Err e) line why is tells fault faulty = elim (tells fault faulty) [
  | inl told ↦ (let same : asm.At line why ≡ asm.At fault.line fault.why = cc in at_same line fault.line why fault.why same)
  | inr told ↦ (let same : asm.At line why ≡ asm.NoMemory = cc in cc)
]
  where
    at_same : (m n : ℕ) (a b : Why) → asm.At m a ≡ asm.At n b → fault_at m a ≡ fault_at n b
    at_same m n a b same = cc

-- Lines begin behind line feeds.

none_left : (left : ℕ) → line_start left [] ≡ 0
none_left zero = refl
none_left (suc left) = refl

pub at_end : (left index : ℕ) (text : List ℕ) → length text ≤ index → line_start left (drop index text) ≡ 0
at_end left index text all = ap (line_start left) (drop_all index text all) ∙ none_left left

start_step : (left byte : ℕ) (text : List ℕ) → 0 < left → line_start left (byte ∷ text) ≡ suc (line_start (cond (eqb byte 10) (left - 1) left) text)
start_step zero byte text some = absurd (omega arith)
start_step (suc left) byte text some = ap suc (at (eqb byte 10))
  where
    at : (b : Bool) → cond b (line_start left text) (line_start (suc left) text) ≡ line_start (cond b (suc left - 1) (suc left)) text
    at true = ap (λ (n : ℕ). line_start n text) (omega arith)
    at false = refl

pub next_start : (left index : ℕ) (text : List ℕ) (d : ℕ) → 0 < left → index < length text
    → line_start left (drop index text) ≡ suc (line_start (cond (eqb (get_or text index d) 10) (left - 1) left) (drop (index + 1) text))
next_start left index text d some there = ap (line_start left) (drop_more text index d there) ∙ start_step left (get_or text index d) (drop (index + 1) text) some

pub positive : (n : ℕ) → (n ≡ 0 → ⊥) → 0 < n
positive zero some = absurd (some refl)
positive (suc n) some = omega arith

-- A word at its place.

pub word_at : (words : List Word) (k : ℕ) (word d : Word) → k < length words → get_or words k d ≡ word → slice_get words k ≡ Some word
word_at words k word d there is = slice_get-get_or words k d there ∙ ap Some is

abbrev word_of : List ℕ → ℕ → Word
word_of bytes column = record { bytes = bytes; column = column }

pub word_is : (word : Word) (bytes : List ℕ) (column : ℕ) → bytes ≡ word.bytes → column ≡ word.column → word ≡ record { bytes = bytes; column = column }
word_is word bytes column same_bytes same_column =
    ap (λ (x : List ℕ). word_of x word.column) (sym same_bytes) ∙ ap (λ (x : ℕ). word_of bytes x) (sym same_column)

-- The first word behind which the text has the fault.
module _ (text : List ℕ) (fault : FaultAt) where
  pub none_more : (words : List Word) (k : ℕ) (word : Word) → slice_get words k ≡ Some word → IsNotBefore text fault words k
      → (IsFault (cut_behind text (start_of text fault) word) fault → ⊥) → IsNotBefore text fault words (k + 1)
  none_more words k word at before none j less there = elim (split j k (omega (arith, less))) [
    | inl lower ↦ before j lower there
    | inr same ↦ (let is : Some there.0 ≡ Some word = sym there.1 ∙ ap (slice_get words) same ∙ at in
        none (subst (λ (w : Word). IsFault (cut_behind text (start_of text fault) w) fault) (one there.0 word is) there.2))
  ]
    where
      split : (a b : ℕ) → a ≤ b → (a < b) ⊎ (a ≡ b)
      split zero zero le = inr refl
      split zero (suc b) le = inl (omega arith)
      split (suc a) zero le = absurd (omega arith)
      split (suc a) (suc b) le = elim (split a b (omega arith)) [
        | inl lower ↦ inl (omega arith)
        | inr same ↦ inr (ap suc same)
      ]

      one : (a b : Word) → Some a ≡ Some b → a ≡ b
      one a b is = cc

  pub placed : {E : Type 0} (r : Result FaultPlace E) (line : List ℕ) (more : List (List ℕ)) (words : List Word) → fault.line ≢ 0 → fault.why ≢ why.MissingWord
      → lines_of (drop (start_of text fault) text) ≡ line ∷ more → AreWordsOf line words → IfOk r (λ p. IsPlaceAmong text fault words p) → IfOk r (λ p. IsPlace text fault p)
  placed (Ok place.Text) line more words some other cut are there = absurd there
  placed (Ok place.EndOfText) line more words some other cut are there = absurd there
  placed (Ok (place.EndOfLine column)) line more words some other cut are there = absurd there
  placed (Ok (place.Word column bytes)) line more words some other cut are there = (some, other, (line, more, words, cut, are, there))
  placed (Ok place.Line) line more words some other cut are there = (some, other, (line, more, words, cut, are, there))
  placed (Err e) line more words some other cut are there = tt

-- a word is among the spelled ones where it is how one is spelled
pub any_spelled : (word : List ℕ) (firsts : List FirstWord) → list_any (bytes_eq word) (map spelled firsts) ≡ list_any (λ first. bytes_eq word (spelled first)) firsts
any_spelled word [] = refl
any_spelled word (first ∷ firsts) = ap (λ (b : Bool). bytes_eq word (spelled first) || b) (any_spelled word firsts)
