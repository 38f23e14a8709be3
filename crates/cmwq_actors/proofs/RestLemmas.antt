-- A list whose elements are taken one by one from the front: the rest stands at the end of the whole.
use Rattle.std.proofs.Common.{◌≡◌, ℕ, suc, ◌+◌, ◌-◌, ◌<◌, ◌≤◌, List, ◌∷◌, get_or, sym, ap, ◌∙◌, arith}

module _ {A : Type 0} (all rest : List A) (x : A) (rest' : List A) (count left left' : ℕ)
    (taken : rest ≡ x ∷ rest') (fewer : left' + 1 ≡ left) (within : left ≤ count)
    (at_end : (i : ℕ) (t : A) → i < left → get_or rest i t ≡ get_or all ((count - left) + i) t) where
  -- what is taken stands where the rest began
  pub taken_at : (t : A) → x ≡ get_or all (count - left) t
  taken_at t =
      let here : get_or rest 0 t ≡ get_or all ((count - left) + 0) t = at_end 0 t (omega arith) in
      let place : (count - left) + 0 ≡ count - left = omega arith in
      sym (ap (λ xs. get_or xs 0 t) taken) ∙ here ∙ ap (λ i. get_or all i t) place

  -- the rest of the rest stands at the end too
  pub rest_at_end : (i : ℕ) (t : A) → i < left' → get_or rest' i t ≡ get_or all ((count - left') + i) t
  rest_at_end i t below =
      let place : (count - left) + suc i ≡ (count - left') + i = omega arith in
      let low : suc i < left = omega arith in
      sym (ap (λ xs. get_or xs (suc i) t) taken) ∙ at_end (suc i) t low ∙ ap (λ j. get_or all j t) place
