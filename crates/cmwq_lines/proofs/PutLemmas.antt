-- What texts that are put one behind another come to.
use Rattle.std.proofs.Common.{◌≡◌, ◌≤◌, ◌+◌, ◌-◌, ℕ, List, ◌∷◌, ◌++◌, [], length, take, drop, ap, sym, ◌∙◌, arith, append_assoc, length-append, length-take, length-drop}
use Rattle.std.proofs.Math.Seq.{take-append-add}
use Rattle.std.proofs.lemmas.List.{length-take-le, take-append-le}
use Rattle.cmwq_types.specs.Contents.{ScenarioContents}
use Rattle.cmwq_types.specs.declared.instr.Instr.{Instr}
use Rattle.cmwq_types.specs.declared.reply.Reply.{Reply}
use Rattle.cmwq_table.specs.Events.{event_line_at, is_silent, reply_line, reply_words}
use Rattle.std.specs.Fmt.{decimal}
use Rattle.std.specs.Prelude.{Bool, true, false, if◌then◌else◌}
use Rattle.cmwq_lines.specs.Putting.{Puts, ended, spaced}

-- of the bytes that are copied the first n are the text
pub puts_front : (old : List ℕ) (at k : ℕ) (bytes : List ℕ) (n : ℕ) → at + length bytes ≤ length old → k ≡ length bytes → n ≤ length bytes → Puts old at (take at old ++ (bytes ++ drop k (drop at old))) (at + n) (take n bytes)
puts_front old at k bytes n room is few =
    let before : length (take at old) ≡ at = length-take-le at old (omega (arith, room)) in
    let behind : length (drop k (drop at old)) ≡ length old - at - k = length-drop k (drop at old) ∙ ap (λ (m : ℕ). m - k) (length-drop at old) in
    record {
      text_is =
          ap (λ (m : ℕ). take (m + n) (take at old ++ (bytes ++ drop k (drop at old)))) (sym before)
          ∙ take-append-add (take at old) (bytes ++ drop k (drop at old)) n
          ∙ ap (λ (text : List ℕ). take at old ++ text) (take-append-le n bytes (drop k (drop at old)) few);
      long = omega (arith, room, is, before, behind, length-append (take at old) (bytes ++ drop k (drop at old)), length-append bytes (drop k (drop at old)));
      ends = ap (λ (m : ℕ). at + m) (sym (length-take-le n bytes few));
    }

-- two texts, one behind the other
pub puts_then : (old mid new : List ℕ) (at m n : ℕ) (first second : List ℕ) → Puts old at mid m first → Puts mid m new n second → Puts old at new n (first ++ second)
puts_then old mid new at m n first second a b = record {
  text_is = b.text_is ∙ ap (λ (front : List ℕ). front ++ second) a.text_is ∙ append_assoc (take at old) first second;
  long = b.long ∙ a.long;
  ends = omega (arith, a.ends, b.ends, length-append first second);
}

module _ (old : List ℕ) (at : ℕ) (new : List ℕ) (end : ℕ) (text : List ℕ) (puts : Puts old at new end text) (room : at ≤ length old) where
  -- the text ends within the block
  pub puts_within : end ≤ length new
  puts_within = omega (arith, length-take end new, ap length puts.text_is, length-append (take at old) text, length-take-le at old room, puts.ends)

-- the line of a reply that has none
pub no_line : (S : ScenarioContents) (now : ℕ) (asked : Instr) (reply : Reply) → is_silent reply ≡ true → reply_line S now asked reply ≡ []
unfolding reply_line
no_line S now asked reply silent = ap (λ (is : Bool). if is then [] else event_line_at now (reply_words S asked reply)) silent

-- and of any other
pub line_of : (S : ScenarioContents) (now : ℕ) (asked : Instr) (reply : Reply) → is_silent reply ≡ false → reply_line S now asked reply ≡ decimal now ++ spaced (ended (reply_words S asked reply))
unfolding reply_line
line_of S now asked reply told =
    ap (λ (is : Bool). if is then [] else event_line_at now (reply_words S asked reply)) told
    ∙ append_assoc (decimal now ++ 32 ∷ []) (reply_words S asked reply) (10 ∷ [])
    ∙ append_assoc (decimal now) (32 ∷ []) (reply_words S asked reply ++ 10 ∷ [])
