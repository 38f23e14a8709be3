-- A line more of comments.
use Rattle.std.specs.Prelude.{◌≡◌, ℕ, List, [], ◌++◌, codes, if◌then◌else◌}
use Rattle.cmwq_types.specs.Contents.{ScenarioContents}
use Rattle.cmwq_types.specs.declared.instr.Instr.{Instr}
use Rattle.cmwq_types.specs.declared.reply.Reply.{Reply}
use Rattle.cmwq_grammar.specs.Comments.{comments}
use Rattle.cmwq_table.specs.Events.{is_silent, reply_line}

-- the line of the reply as a comment, if it has one
abbrev pub after_hash : ScenarioContents → ℕ → Instr → Reply → List ℕ
after_hash S now asked reply = if is_silent reply then [] else codes "# " ++ reply_line S now asked reply

-- the line went behind the comments, and more comments may follow
abbrev pub Comments : (old new line : List ℕ) → Type 0
Comments old new line = (more : List ℕ) → new ++ comments more ≡ old ++ comments (line ++ more)
