-- Notes behind a listing: each is a comment's line.
use Rattle.std.specs.Prelude.{◌≡◌, ◌≤◌, ◌+◌, ◌*◌, ℕ, Bool, true, not, ◌&&◌, ◌==◌, List, [], ◌∷◌, ◌++◌, codes, length, nat_lt, if◌then◌else◌}
use Rattle.std.specs.Fmt.{decimal}
use Rattle.std.specs.List.{AllByRecursion, flat_map, list_all}
use Rattle.cmwq_types.specs.Contents.{ScenarioContents}
use Rattle.cmwq_types.specs.Faults.{IsValid}
use Rattle.cmwq_types.specs.Listing.{listing}
use Rattle.cmwq_types.specs.Values.{IsScenario}
use Rattle.cmwq_types.specs.declared.instr.Instr.{Instr}
use Rattle.cmwq_types.specs.declared.limits.TheConstants.{MAX_TEXT}
use Rattle.cmwq_types.specs.declared.reply.Reply.{Reply}
use Rattle.cmwq_table.specs.Events.{is_silent, reply_words}
use Rattle.cmwq_grammar.specs.Comments.{listing_room}
use Rattle.cmwq_grammar.specs.Grammar.{Spells}

-- the note after `# `, in a line of its own
abbrev pub note_line : List ℕ → List ℕ
note_line note = codes "# " ++ note ++ 10 ∷ []

abbrev pub note_lines : List (List ℕ) → List ℕ
note_lines notes = flat_map note_line notes

-- a byte of ASCII that ends no line
abbrev pub is_plain : ℕ → Bool
is_plain byte = not (byte == 10) && nat_lt byte 128

-- The text has such bytes alone, and at most so many.
pub record Piece (most : ℕ) (text : List ℕ) : Type 0 where
  pub same : list_all is_plain text ≡ true
  pub short : length text ≤ most

-- a note's line has at most 256 bytes
abbrev pub IsNote : List ℕ → Type 0
IsNote note = Piece 253 note

abbrev pub AreNotes : List (List ℕ) → Type 0
AreNotes notes = AllByRecursion IsNote notes

-- a reply's line as a note, further in, if it has one
abbrev pub reply_notes : ScenarioContents → (now : ℕ) → Instr → Reply → List (List ℕ)
reply_notes S now asked reply =
    if is_silent reply then [] else (codes "  " ++ decimal now ++ codes " " ++ reply_words S asked reply) ∷ []

-- Notes may follow the listing of a valid scenario, as far as a text has room for them: the whole spells the same scenario.
unfoldable pub NotesMayFollow : Type 0
NotesMayFollow =
    (S : ScenarioContents) (notes : List (List ℕ)) → IsValid S → IsScenario S → AreNotes notes
    → 256 * length notes + listing_room (length S.actors) ≤ MAX_TEXT → Spells (listing S ++ note_lines notes) S
