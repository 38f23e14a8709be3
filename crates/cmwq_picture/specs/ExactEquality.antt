-- Equality of the parts of a column, and of columns, is exact.
use Rattle.std.proofs.Common.{◌≡◌, List, Bool, true, true≢false, refl, sym, ap, ◌&&◌}
use Rattle.std.proofs.lemmas.Bool.{and_parts, eqb-true}
use Rattle.std.specs.Bool.{Decides}
use Rattle.std.specs.Cmp.{booleans_Decides}
use Rattle.std.specs.Cmp.Derive.{both_true}
use Rattle.std.specs.Cmp.Lexicographic.{pointwise, pointwise_decides}
use Rattle.std.specs.Prelude.{◌==◌}
use mathlib.Core.Bool.{beq}
use Rattle.cmwq_types.specs.contracts.instr.WorkIdPartialEq.TheImpl as work_id
use Rattle.cmwq_types.specs.ExactEquality.{exact, same_work_id, told}
use Rattle.cmwq_picture.specs.Column.{ColumnContents}
use Rattle.cmwq_picture.specs.Equality.{column_eq}
use Rattle.cmwq_picture.specs.declared.cell.Cell.{Cell}
use Rattle.cmwq_picture.specs.declared.cell.Cell.TheVariants.{Empty, Does, Burner, Acts, Lasts, Armed}
use Rattle.cmwq_picture.specs.declared.cell.Sign.{Sign}
use Rattle.cmwq_picture.specs.declared.cell.Sign.TheVariants.{Burns, Waits, Sleeps, Listed, Inactive, Timed, Deferred}
use Rattle.cmwq_picture.specs.declared.column.Burning.{Burning}
use Rattle.cmwq_picture.specs.contracts.cell.CellEq.TheImpl.Laws as cell_laws
use Rattle.cmwq_picture.specs.contracts.cell.CellPartialEq.TheImpl as cell
use Rattle.cmwq_picture.specs.contracts.cell.SignPartialEq.TheImpl as sign
use Rattle.cmwq_picture.specs.contracts.column.BurningEq.TheImpl.Laws as burning_laws
use Rattle.cmwq_picture.specs.contracts.column.BurningPartialEq.TheImpl as burning

same_sign : (x y : Sign) → sign.ghosts.eq x y ≡ true → x ≡ y
same_sign Burns Burns h = refl
same_sign Waits Waits h = refl
same_sign Sleeps Sleeps h = refl
same_sign Listed Listed h = refl
same_sign Inactive Inactive h = refl
same_sign Timed Timed h = refl
same_sign Deferred Deferred h = refl
same_sign x y h = absurd (true≢false (sym h))

same_cell : (x y : Cell) → cell.ghosts.eq x y ≡ true → x ≡ y
same_cell Empty Empty h = refl
same_cell (Does a) (Does b) h = ap Does (same_sign a b h)
same_cell (Burner v) (Burner w) h = ap Burner (same_work_id v w h)
same_cell Acts Acts h = refl
same_cell Lasts Lasts h = refl
same_cell (Armed v) (Armed w) h = ap Armed (same_work_id v w h)
same_cell x y h = absurd (true≢false (sym h))

same_burning : (x y : Burning) → burning.ghosts.eq x y ≡ true → x ≡ y
same_burning x y h =
    let a = and_parts (work_id.ghosts.eq x.work y.work) ((x.pool == y.pool) && (x.worker == y.worker)) h in
    let b = and_parts (x.pool == y.pool) (x.worker == y.worker) a.1 in
    λ i. record {
      work = same_work_id x.work y.work a.0 i;
      pool = eqb-true x.pool y.pool b.0 i;
      worker = eqb-true x.worker y.worker b.1 i;
    }

Decides-cells : (xs ys : List Cell) → Decides (pointwise cell.ghosts.eq xs ys) (xs ≡ ys)
Decides-cells = pointwise_decides (exact cell_laws.laws-law same_cell)

Decides-burners : (xs ys : List Burning) → Decides (pointwise burning.ghosts.eq xs ys) (xs ≡ ys)
Decides-burners = pointwise_decides (exact burning_laws.laws-law same_burning)

pub column_eq_is_exact : (x y : ColumnContents) → Decides (column_eq x y) (x ≡ y)
column_eq_is_exact x y =
    let works = Decides-cells x.works y.works in
    let pending = Decides-cells x.pending y.pending in
    let burners = Decides-burners x.burners y.burners in
    let frozen = booleans_Decides x.frozen y.frozen in
    let pressed = booleans_Decides x.pressed y.pressed in
    let acted = booleans_Decides x.acted y.acted in
    let flags = beq x.frozen y.frozen && (beq x.pressed y.pressed && beq x.acted y.acted) in
    let last = pointwise burning.ghosts.eq x.burners y.burners && flags in (
      λ h.
          let a = and_parts (pointwise cell.ghosts.eq x.works y.works) (pointwise cell.ghosts.eq x.pending y.pending && last) h in
          let b = and_parts (pointwise cell.ghosts.eq x.pending y.pending) last a.1 in
          let c = and_parts (pointwise burning.ghosts.eq x.burners y.burners) flags b.1 in
          let d = and_parts (beq x.frozen y.frozen) (beq x.pressed y.pressed && beq x.acted y.acted) c.1 in
          let e = and_parts (beq x.pressed y.pressed) (beq x.acted y.acted) d.1 in
          λ i. record { works = works.0 a.0 i; pending = pending.0 b.0 i; burners = burners.0 c.0 i; frozen = frozen.0 d.0 i; pressed = pressed.0 e.0 i; acted = acted.0 e.1 i },
      λ e.
          both_true (works.1 (ap (λ c. c.works) e))
          (both_true (pending.1 (ap (λ c. c.pending) e)) (both_true (burners.1 (ap (λ c. c.burners) e))
          (both_true (frozen.1 (ap (λ c. c.frozen) e)) (both_true (pressed.1 (ap (λ c. c.pressed) e)) (acted.1 (ap (λ c. c.acted) e)))))),
    )

-- what an answer of the test says
pub column_told : (r : Bool) (x y : ColumnContents) → r ≡ column_eq x y → Decides r (x ≡ y)
column_told r x y = told r (column_eq_is_exact x y)
