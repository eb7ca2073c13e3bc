-- The request's sentences together, of a field that is not refused: what an entry's promise cites.
-- Each is a theorem of its own file.
use Prim.Native.Nat.{ℕ, ◌*◌, ◌<◌}
use native.Mathlib.Omega.{arith}
use mathlib.Core.Path.{◌≡◌, sym, ap, ◌∙◌}
use mathlib.Core.List.{List}
use lib.ListN.{get_or}
use Rattle.rules.specs.Field.{Field, Bytes}
use Rattle.rules.specs.Open.{open_field}
use Rattle.rules.specs.Refusals.{refusal}
use Rattle.rules.specs.Distance.{raw, greatest, blur}
use Rattle.laws.proofs.Cells.{passed}
use Rattle.meaning.specs.Open.{span_at, least}
use Rattle.meaning.specs.Meant.{Meant}
use Rattle.meaning.proofs.Places.{few}
use Rattle.meaning.proofs.Blurred.{blurred_at_most_max_distance, distances_not_too_far}
use Rattle.meaning.proofs.Chains.{raw_is_a_chain's_cost, raw-not_below_cheapest}
use Rattle.meaning.proofs.OneSpan.{one-span-raw_is_cheapest}
use Rattle.meaning.proofs.OpenField.{open_spans_lem}
use Rattle.meaning.proofs.Open.{open_raw_is_twice_the_least}

open_by : (F : Field) (lens : List ℕ) → refusal F lens ≡ 0 → (w h : ℕ) → F ≡ open_field w h → (x z : ℕ) → x < w → z < h → get_or (raw F) (span_at w x z) 0 ≡ 2 * least w h x z
open_by F lens p w h e x z i j =
    let q : refusal (open_field w h) lens ≡ 0 = ap (λ (G : Field). refusal G lens) (sym e) ∙ p in
    ap (λ (G : Field). get_or (raw G) (span_at w x z) 0) e
    ∙ open_raw_is_twice_the_least w h x z (omega (arith, few (open_field w h) _ (passed _ _ q), open_spans_lem w h)) i j

pub distances_mean : (F : Field) (lens : List ℕ) → refusal F lens ≡ 0 → Bytes F → Meant F (greatest (raw F)) (raw F) (blur F (raw F))
distances_mean F lens p bytes =
    record {
      chain = raw_is_a_chain's_cost F lens p bytes;
      cheapest = raw-not_below_cheapest F lens p bytes;
      single = λ one s h. one-span-raw_is_cheapest F lens p bytes one s h;
      wide = open_by F lens p;
      within = blurred_at_most_max_distance F;
      near = distances_not_too_far F lens p bytes;
    }
