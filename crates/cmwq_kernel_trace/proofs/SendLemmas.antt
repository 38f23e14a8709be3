-- A head and the lines of a list, sent one behind another.
use Rattle.std.proofs.Common.{◌≡◌, ◌<◌, ◌+◌, ◌∙◌, ℕ, List, [], ◌∷◌, ◌++◌, Option, ap, drop, get_or, length, subst, sym, take}
use Rattle.std.proofs.lemmas.List.{append-nil, append_assoc, take-append-drop, take_more}
use Rattle.std.proofs.lemmas.List.Concat.{flat_map-append}
use Rattle.std.specs.List.{flat_map}
use Rattle.cmwq_streams.specs.Blocks.{Sends, SendsFront, kept, sink}
use Rattle.cmwq_streams.specs.declared.block_writer.BlockWriter.{BlockWriter}
use Rattle.cmwq_streams.proofs.CallerLemmas.{front_more, front_then, sends_then}

module _ {W X : Type 0} (contents : W → Option (List ℕ)) (head : List ℕ) (line : X → List ℕ) (xs : List X) where
  -- the head, and the lines of the first i
  abbrev far : ℕ → List ℕ
  far i = head ++ flat_map line (take i xs)

  abbrev all : List ℕ
  all = head ++ flat_map line xs

  far-more : (i : ℕ) (d : X) → i < length xs → far i ++ line (get_or xs i d) ≡ far (i + 1)
  far-more i d inside =
      append_assoc head (flat_map line (take i xs)) (line (get_or xs i d))
      ∙ ap (λ (rest : List ℕ). head ++ rest)
      (sym (ap (flat_map line) (take_more xs i d inside) ∙ flat_map-append line (take i xs) (get_or xs i d ∷ []) ∙ ap (λ (rest : List ℕ). flat_map line (take i xs) ++ rest) (append-nil (line (get_or xs i d)))))

  far-then : (i : ℕ) → all ≡ far i ++ flat_map line (drop i xs)
  far-then i =
      ap (λ (ys : List X). head ++ flat_map line ys) (sym (take-append-drop i xs)) ∙ ap (λ (rest : List ℕ). head ++ rest) (flat_map-append line (take i xs) (drop i xs))
      ∙ sym (append_assoc head (flat_map line (take i xs)) (flat_map line (drop i xs)))

  module _ (old now after : BlockWriter W) where
    pub one-more : (i : ℕ) (d : X) → i < length xs → Sends contents old now (far i) → Sends contents now after (line (get_or xs i d)) → Sends contents old after (far (i + 1))
    one-more i d inside sent more =
        subst (λ (text : List ℕ). Sends contents old after text) (far-more i d inside)
        (sends_then (contents (sink old)) (contents (sink now)) (contents (sink after)) (kept old) (kept now) (kept after) (far i) (line (get_or xs i d)) sent more)

    pub stopped-at : (i : ℕ) (d : X) → i < length xs → Sends contents old now (far i) → SendsFront contents now after (line (get_or xs i d)) → SendsFront contents old after all
    stopped-at i d inside sent front =
        subst (λ (text : List ℕ). SendsFront contents old after text) (ap (λ (text : List ℕ). text ++ flat_map line (drop (i + 1) xs)) (far-more i d inside) ∙ sym (far-then (i + 1)))
        (front_more (contents (sink old)) (contents (sink after)) (kept old) (far i ++ line (get_or xs i d)) (flat_map line (drop (i + 1) xs))
        (front_then (contents (sink old)) (contents (sink now)) (contents (sink after)) (kept old) (kept now) (far i) (line (get_or xs i d)) sent front))

  pub stopped-before : (old after : BlockWriter W) → SendsFront contents old after head → SendsFront contents old after all
  stopped-before old after front = front_more (contents (sink old)) (contents (sink after)) (kept old) head (flat_map line xs) front

  pub all-sent : (old after : BlockWriter W) (i : ℕ) → take i xs ≡ xs → Sends contents old after (far i) → Sends contents old after all
  all-sent old after i is sent = subst (λ (ys : List X). Sends contents old after (head ++ flat_map line ys)) is sent
