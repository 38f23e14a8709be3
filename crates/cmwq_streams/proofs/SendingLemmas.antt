-- Bytes that go out one part after another.
use Rattle.std.proofs.Common.{ℕ, ◌≡◌, List, [], ◌++◌, take, drop, Option, Some, None, sym, ap, ◌∙◌, subst, append_assoc, append-nil}
use Rattle.std.proofs.lemmas.List.{take-append-drop}
use Rattle.std.specs.Io.KnownBytes.{Appends, Keeps}
use Rattle.cmwq_streams.specs.Sending.{HasSent, HasSentFront}

-- what is appended twice is appended as one
pub appends_both : (before now after : Option (List ℕ)) (xs ys : List ℕ) → Appends before now xs → Appends now after ys → Appends before after (xs ++ ys)
appends_both None now after xs ys first second = tt
appends_both (Some b) None after xs ys first second = absurd first
appends_both (Some b) (Some n) None xs ys first second = absurd second
appends_both (Some b) (Some n) (Some a) xs ys first second =
    second ∙ ap (λ (front : List ℕ). front ++ ys) first ∙ append_assoc b xs ys

pub appends_none : (now : Option (List ℕ)) → Appends now now []
appends_none None = tt
appends_none (Some n) = sym (append-nil n)

-- a front of what is sent first is a front of the whole
pub front_of_more : (before now : Option (List ℕ)) (lines more : List ℕ) → HasSentFront before now lines → HasSentFront before now (lines ++ more)
front_of_more before now lines more h =
    (h.0, h.1 ++ more, h.2, sym (append_assoc h.0 h.1 more) ∙ ap (λ (front : List ℕ). front ++ more) h.3)

-- what is sent but for a block, and of the block a front, is a front
pub front_of_block : (before now after : Option (List ℕ)) (block lines : List ℕ) → HasSent before now block lines → HasSentFront now after block → HasSentFront before after lines
front_of_block before now after block lines h f =
    (h.0 ++ f.0, f.1, appends_both before now after h.0 f.0 h.1 f.2, append_assoc h.0 f.0 f.1 ∙ ap (λ (rest : List ℕ). h.0 ++ rest) f.3 ∙ h.2)

pub keeps_nothing : (before after : Option (List ℕ)) → Keeps before after → Appends before after []
keeps_nothing None after h = tt
keeps_nothing (Some b) None h = absurd h
keeps_nothing (Some b) (Some a) h = h ∙ sym (append-nil b)

-- of what is left, n more bytes are out
pub sent_some : (before now after : Option (List ℕ)) (rest lines : List ℕ) (n : ℕ) → HasSent before now rest lines → Appends now after (take n rest) → HasSent before after (drop n rest) lines
sent_some before now after rest lines n h a =
    (h.0 ++ take n rest, appends_both before now after h.0 (take n rest) h.1 a, append_assoc h.0 (take n rest) (drop n rest) ∙ ap (λ (more : List ℕ). h.0 ++ more) (take-append-drop n rest) ∙ h.2)

joined : (sent more rest left block first second : List ℕ) → sent ++ left ≡ block ++ first → more ++ rest ≡ left ++ second → (sent ++ more) ++ rest ≡ block ++ (first ++ second)
joined sent more rest left block first second a b =
    append_assoc sent more rest
    ∙ ap (λ (l : List ℕ). sent ++ l) b
    ∙ sym (append_assoc sent left second)
    ∙ ap (λ (l : List ℕ). l ++ second) a
    ∙ append_assoc block first second

-- text sent one part after another
pub sends_then : (old now after : Option (List ℕ)) (block left rest first second : List ℕ) → HasSent old now left (block ++ first) → HasSent now after rest (left ++ second) → HasSent old after rest (block ++ (first ++ second))
sends_then old now after block left rest first second a b =
    (a.0 ++ b.0, appends_both old now after a.0 b.0 a.1 b.1, joined a.0 b.0 rest left block first second a.2 b.2)

-- lines that were sent, and then a front of more
pub front_then : (old now after : Option (List ℕ)) (block left first second : List ℕ) → HasSent old now left (block ++ first) → HasSentFront now after (left ++ second) → HasSentFront old after (block ++ (first ++ second))
front_then old now after block left first second a b =
    (a.0 ++ b.0, b.1, appends_both old now after a.0 b.0 a.1 b.2, joined a.0 b.0 b.1 left block first second a.2 b.3)

-- a front of lines is a front of more lines
pub front_more : (old now : Option (List ℕ)) (block lines more : List ℕ) → HasSentFront old now (block ++ lines) → HasSentFront old now (block ++ (lines ++ more))
front_more old now block lines more a = subst (λ (l : List ℕ). HasSentFront old now l) (append_assoc block lines more) (front_of_more old now (block ++ lines) more a)

-- with nothing kept back at the end, all of the lines are out
pub sends_all : (old now : Option (List ℕ)) (lines : List ℕ) → HasSent old now [] lines → Appends old now lines
sends_all old now lines h = subst (λ (sent : List ℕ). Appends old now sent) (sym (append-nil h.0) ∙ h.2) h.1

-- the block is out behind what was sent
pub block_out : (old now after : Option (List ℕ)) (left lines : List ℕ) → HasSent old now left lines → HasSent now after [] left → HasSent old after [] lines
block_out old now after left lines a b =
    (a.0 ++ b.0, appends_both old now after a.0 b.0 a.1 b.1, append_assoc a.0 b.0 [] ∙ ap (λ (rest : List ℕ). a.0 ++ rest) b.2 ∙ a.2)
