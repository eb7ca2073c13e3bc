-- What the records' stage leaves is what filter, merge and numbering ask for: the workspace's records are the rule's, and those fit.
-- A column or a list in the workspace is that field of the rule's record, so sums over the records are the rule's.
use Prim.Native.Nat.{ℕ, ◌+◌, ◌*◌, ◌≤◌, ◌<◌}
use native.Mathlib.Omega.{arith}
use mathlib.Core.Path.{◌≡◌, sym, ap, ◌∙◌}
use mathlib.Core.Bool.{true}
use mathlib.Core.List.{List}
use lib.ListN.{length, get_or}
use Rattle.rules.specs.Field.{Field, spans}
use Rattle.rules.specs.Growth.{plain}
use Rattle.rules.specs.Records.{Rec, at, records}
use Rattle.rules.specs.Refusals.{most_spans}
use Rattle.laws.specs.Sums.{sum_to}
use Rattle.laws.proofs.Sums.{sum_same}
use Rattle.rooms.proofs.Joins.{plain_true}
use Rattle.table.specs.Map.{links_past}
use Rattle.table.specs.View.{rec_at}
use Rattle.table.proofs.ViewLaws.{list_length, recs_at}
use Rattle.records.specs.Rows.{floors_at}
use Rattle.records.specs.Stock.{Given, Built}
use Rattle.records.proofs.Fits.{own_number, counts_fit, lists_fit}
use Rattle.numbering.specs.Number.{Spans}
use Rattle.pool.specs.Pool.{len_at, count_at}
use Rattle.merge.specs.Ready.{Ready}

module _ (F : Field) (ids : List ℕ) (table next : ℕ) (ws₀ ws : List ℕ) (g : Given F ids table ws₀) (B : Built F ids next ws₀ ws) where
  size : length ids ≡ spans F
  size = g.idents

  rec_is : (r : ℕ) → r < next + 1 → rec_at ws (next + 1) (7 * (next + 1)) (11 * (next + 1)) r ≡ at (records F ids next) r
  rec_is r h = sym (recs_at ws (next + 1) r h) ∙ ap (λ (l : List Rec). at l r) B.same

  id_is : (r : ℕ) → r < next + 1 → get_or ws r 0 ≡ (at (records F ids next) r).id
  unfolding rec_at
  id_is r h = ap (λ (x : Rec). x.id) (rec_is r h)

  count_is : (r : ℕ) → r < next + 1 → count_at ws (next + 1) r ≡ (at (records F ids next) r).count
  unfolding rec_at count_at
  count_is r h = ap (λ (x : Rec). x.count) (rec_is r h)

  len_is : (r : ℕ) → r < next + 1 → len_at ws (next + 1) r ≡ length (at (records F ids next) r).list
  unfolding rec_at len_at
  len_is r h = sym (list_length ws (next + 1) (7 * (next + 1)) r B.held.lists h) ∙ ap (λ (x : Rec). length x.list) (rec_is r h)

  counts : sum_to (count_at ws (next + 1)) (next + 1) ≤ length ids
  counts =
      let e = sum_same (count_at ws (next + 1)) (λ r. (at (records F ids next) r).count) (next + 1) count_is in
      omega (arith, counts_fit F g.sound ids size next)

  lists : sum_to (len_at ws (next + 1)) (next + 1) ≤ 4 * length ids
  lists =
      let e = sum_same (len_at ws (next + 1)) (λ r. length (at (records F ids next) r).list) (next + 1) len_is in
      omega (arith, lists_fit F g.sound ids size next)

  -- the records' stage hands over to the merge
  pub handed : next + 1 ≤ length ids + 6 → length ids ≤ most_spans → links_past (next + 1) (length ids) ≤ length ws → Spans (next + 1) ids → Ready (next + 1) (length ids) ws ids
  unfolding floors_at
  handed few short room S =
      let below : (x : ℕ) → plain (get_or ids x 0) ≡ true → get_or ids x 0 < next + 1 = λ x e. S.below x (plain_true _ e).1 in
      record {
        records = few;
        spans = short;
        room = room;
        held = B.held;
        from = B.from;
        upto = B.till;
        floors = λ r h. omega (arith, B.floors r h);
        floored = B.floored;
        lists = lists;
        counts = counts;
        blank = B.spare;
        own = λ x h _. id_is x h ∙ own_number F g.sound ids size next x h below;
        named = S;
      }
