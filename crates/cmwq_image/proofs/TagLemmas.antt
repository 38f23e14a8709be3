-- Words whose tags follow one another are found by their place.
use Rattle.std.proofs.Common.{◌≡◌, ℕ, zero, suc, ◌+◌, Bool, true, false, ◌&&◌, cond, eqb, List, [], ◌∷◌, Some, arith, refl, ap, ◌∙◌}
use Rattle.std.proofs.lemmas.Bool.Decides.{nat_tests}
use Rattle.std.proofs.lemmas.Bool.{and_parts, eqb-true}
use Rattle.std.specs.Prelude.{slice_get}
use Rattle.cmwq_image.specs.ImageFault.{first_with}

module _ {W : Type 0} (tag : W → ℕ) where
  -- the tags of these words are k and those that follow it
  abbrev pub follow : ℕ → List W → Bool
  follow k [] = true
  follow k (m ∷ ms) = eqb (tag m) k && follow (suc k) ms

  pub by_place : (ms : List W) (k i n : ℕ) → follow k ms ≡ true → n ≡ k + i → first_with tag ms n ≡ slice_get ms i
  by_place [] k i n f e = refl
  by_place (m ∷ ms) k zero n f e =
      let both = and_parts (eqb (tag m) k) (follow (suc k) ms) f in
      let is : tag m ≡ k = eqb-true (tag m) k both.0 in
      let here : eqb n (tag m) ≡ true = grind (arith, nat_tests) in
      ap (λ (b : Bool). cond b (Some m) (first_with tag ms n)) here
  by_place (m ∷ ms) k (suc i) n f e =
      let both = and_parts (eqb (tag m) k) (follow (suc k) ms) f in
      let is : tag m ≡ k = eqb-true (tag m) k both.0 in
      let later : eqb n (tag m) ≡ false = grind (arith, nat_tests) in
      ap (λ (b : Bool). cond b (Some m) (first_with tag ms n)) later ∙ by_place ms (suc k) i n both.1 (omega arith)
