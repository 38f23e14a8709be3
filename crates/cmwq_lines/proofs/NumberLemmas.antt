-- A number's digits in the midst of some bytes.
use Rattle.std.proofs.Common.{◌≡◌, ◌+◌, ℕ, List, ◌++◌, length, drop, ap, sym, ◌∙◌}
use Rattle.std.proofs.Math.Seq.{drop-append_seam}
use Rattle.std.proofs.lemmas.List.{drop-drop}
use Rattle.std.specs.Fmt.{decimal}
use Rattle.cmwq_lines.specs.Parts.{EndsWithin}

-- digits that were written so that they end there
pub written-ends : (new rest : List ℕ) (start number : ℕ) → start + length (decimal number) ≡ 24 → drop start new ≡ decimal number ++ rest → EndsWithin new start number
written-ends new rest start number ends written = record {
  text_is =
      let behind : drop 24 new ≡ rest =
      ap (λ (n : ℕ). drop n new) (sym ends) ∙ sym (drop-drop (length (decimal number)) start new) ∙ ap (drop (length (decimal number))) written ∙ drop-append_seam (decimal number) rest
      in
      written ∙ ap (λ (more : List ℕ). decimal number ++ more) (sym behind);
  ends = ends;
}
