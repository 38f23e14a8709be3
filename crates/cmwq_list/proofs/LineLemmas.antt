-- Words joined by spaces.
use Rattle.std.proofs.Common.{◌≡◌, ℕ, List, [], ◌∷◌, ◌++◌, sym, ap, ◌∙◌, append-nil, append_assoc}
use Rattle.std.specs.List.{flat_map, join_with_byte}

-- the first word, and then each other behind the byte
pub joined_cons : (c : ℕ) (x : List ℕ) (xs : List (List ℕ)) → join_with_byte c (x ∷ xs) ≡ x ++ flat_map (λ word. c ∷ word) xs
joined_cons c x [] = sym (append-nil x)
joined_cons c x (y ∷ ys) = ap (λ (rest : List ℕ). x ++ c ∷ rest) (joined_cons c y ys)

-- what is joined goes on with each further word behind the byte
pub joined_more : (c : ℕ) (x : List ℕ) (xs ys : List (List ℕ)) → join_with_byte c (x ∷ (xs ++ ys)) ≡ join_with_byte c (x ∷ xs) ++ flat_map (λ word. c ∷ word) ys
joined_more c x [] ys = joined_cons c x ys
joined_more c x (y ∷ xs) ys =
    ap (λ (rest : List ℕ). x ++ c ∷ rest) (joined_more c y xs ys)
    ∙ sym (append_assoc x (c ∷ join_with_byte c (y ∷ xs)) (flat_map (λ word. c ∷ word) ys))
