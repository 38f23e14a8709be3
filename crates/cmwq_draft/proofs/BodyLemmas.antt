-- The works that have their bodies are the first ones, by their names.
use Rattle.std.proofs.Common.{◌≡◌, ℕ, ◌+◌, ◌<◌, ◌≤◌, List, [], ◌∷◌, ◌++◌, length, take, get_or, sym, ap, ◌∙◌, arith}
use Rattle.std.specs.Prelude.{map}
use Rattle.std.proofs.lemmas.Grind.{common_steps}
use Rattle.std.proofs.lemmas.List.{take_more, map-append, get_or-map}

module _ {A : Type 0} (name : A → List ℕ) where
  -- one more, of the next one's name
  pub names_more : (done works items : List A) (work next : A) → length done < length works → map name done ≡ take (length done) (map name works) → next ≡ get_or works (length done) next → name work ≡ name next → items ≡ done ++ work ∷ [] → (length items ≤ length works) × (map name items ≡ take (length items) (map name works))
  names_more done works items work next room same at named now =
      let longer : length items ≡ length done + 1 = grind (arith, common_steps) in
      let room_there : length done < length (map name works) = grind (arith, common_steps) in
      let at_name : get_or (map name works) (length done) [] ≡ name work = get_or-map name works (length done) next [] room ∙ ap name (sym at) ∙ sym named in (
        omega (arith, longer),
        ap (map name) now ∙ map-append name done (work ∷ []) ∙ ap (λ (names : List (List ℕ)). names ++ name work ∷ []) same
            ∙ ap (λ (n : List ℕ). take (length done) (map name works) ++ n ∷ []) (sym at_name)
            ∙ sym (take_more (map name works) (length done) [] room_there)
            ∙ ap (λ (n : ℕ). take n (map name works)) (sym longer),
      )
