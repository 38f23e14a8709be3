-- What the letters of works are.
use Rattle.std.specs.Prelude.{◌≡◌, ◌≤◌, false, length, ◌==◌}
use Rattle.std.specs.List.{IsDistinct, list_any}
use Rattle.cmwq_types.specs.Contents.{ScenarioContents}
use Rattle.cmwq_picture.specs.declared.cell.Sign.{Sign}
use Rattle.cmwq_render.specs.Legend.{sign_mark}
use Rattle.cmwq_render.specs.Letters.{letters}

-- Where there are at most 62 works, each has a letter.
unfoldable pub EachHasOne : Type 0
EachHasOne = (S : ScenarioContents) → length S.works ≤ 62 → length (letters S) ≡ length S.works

-- No two works have the same.
unfoldable pub NoTwoAreAlike : Type 0
NoTwoAreAlike = (S : ScenarioContents) → IsDistinct (λ one other. one == other) (letters S)

-- If there are at most 61 works, no letter is a sign: so a byte in the row of a work has one meaning.
unfoldable pub NoneIsASign : Type 0
NoneIsASign = (S : ScenarioContents) (s : Sign) → length S.works ≤ 61 → list_any (λ letter. letter == sign_mark s) (letters S) ≡ false
