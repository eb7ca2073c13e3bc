-- What is printed, case by case of the answers. An outcome's numbers are the same for any lists of the same lengths, so it does not matter what
-- the lists that are lent to the entries hold; and the listing looks at a field's cells alone.
use Prim.Native.Nat.{ℕ, zero, suc, ◌+◌, ◌*◌, ◌≤◌}
use native.Mathlib.Omega.{arith}
use native.Mathlib.Decide.{ℕ_discrete}
use mathlib.Core.Path.{◌≡◌, refl, sym, ap, ◌∙◌}
use mathlib.Core.Bool.{true, false, not}
use mathlib.Core.List.{List, [], ◌∷◌, ◌++◌}
use Rattle.std.specs.Prelude.{Result, Ok, Err}
use lib.ListN.{length, take, replicate, length-replicate, length-take}
use lib.Dec.{eqb}
use borrow.Author.Tests.{eq-eqb, ne_eqb, eqb-true, eqb-false, not-true, not-false}
use Rattle.rules.specs.Base.{when◌then◌else◌}
use Rattle.rules.specs.Field.{Field, spans}
use Rattle.rules.specs.Refusals.{refusal, region_refusal}
use Rattle.rules.specs.Distance.{raw as raw_of, greatest, blur}
use Rattle.rules.specs.Growth.{grown, stops}
use Rattle.rules.specs.Numbering.{dense, regions, formed}
use Rattle.rules.specs.Outcomes.{Sizes, DistanceOutcome, RegionOutcome, distance_outcome, region_outcome}
use Rattle.rules.specs.File.{refused, described, read_file}
use Rattle.rules.specs.Listing.{row_text, rows_text, listing, refused_line, ran, answered, printed}
use Rattle.laws.proofs.Basics.{if-ind}
use Rattle.rooms.proofs.Rooms.{accepted}
use Rattle.field.specs.Lent.{lent}
use Rattle.checker.specs.Answer.{number_of}
use Rattle.checker.specs.declared.Refusal.{Refusal}
use Rattle.field.proofs.Passed.{reached_of}
use Rattle.file.specs.declared.read.FileRefusal.{FileRefusal}
use Rattle.file.specs.declared.read.Header.{Header}
use Rattle.file.specs.Reads.{file_number, sizes_of, first, reading_of, Reads}
use Rattle.file.specs.Shown.{shown, numbered, Listable, Prints}
use Rattle.watershed.specs.Answer.{Answers, AnswersRegions}
use Rattle.numbering.specs.declared.Regions.{Regions}
use Rattle.checker.proofs.Numbers.{number_pos}
use Rattle.answer.specs.Answers.{Fitting, second}

-- the listing of a field is that of its cells, ids and numbers
rows_shown : (w h : ℕ) (is ks ar cs ids : List ℕ) (k z : ℕ) → rows_text (shown w h is ks) ids k z ≡ rows_text (lent w h is ks ar cs) ids k z
unfolding rows_text row_text
rows_shown w h is ks ar cs ids zero z = refl
rows_shown w h is ks ar cs ids (suc k) z = ap (λ (l : List ℕ). row_text (shown w h is ks) ids z ++ l) (rows_shown w h is ks ar cs ids k (suc z))

listing-shown : (w h : ℕ) (is ks ar cs : List ℕ) (most : ℕ) (o : RegionOutcome)
    → listing (shown w h is ks) most (numbered o.most o.over o.cut o.ids) ≡ listing (lent w h is ks ar cs) most o
unfolding listing
listing-shown w h is ks ar cs most o = rw (rows_shown w h is ks ar cs o.ids h 0)

-- ---------------------------------------------------------------- the region entry's answer

module _ (w h : ℕ) (is ks ar cs dist : List ℕ) (most : ℕ) (z : Sizes) (ws ids ws' ids' out out' : List ℕ) (r : ℕ) where
  pub second_refused : (x : Result Regions Refusal) → AnswersRegions (region_outcome dense (lent w h is ks ar cs) dist most z ws ids) x ws' ids' → (k : Refusal) → x ≡ Err k → (j : ℕ) → j ≡ number_of k
      → Prints out (refused_line j) r out' → Prints out (second (lent w h is ks ar cs) dist most z ws ids) r out'
  unfolding second when◌then◌else◌
  second_refused x b k y j e p =
      let a : AnswersRegions (region_outcome dense (lent w h is ks ar cs) dist most z ws ids) (Err k) ws' ids' = rw (← y) b in
      rw (ne_eqb (region_outcome dense (lent w h is ks ar cs) dist most z ws ids).refused 0 (λ v. omega (arith, a.refused, number_pos k)), ← a.refused, ← e) p

  pub second_done : (x : Result Regions Refusal) → AnswersRegions (region_outcome dense (lent w h is ks ar cs) dist most z ws ids) x ws' ids' → (v : Regions) → x ≡ Ok v
      → Prints out (listing (shown w h is ks) most (numbered v.max_region v.overlaps v.cut ids')) r out' → Prints out (second (lent w h is ks ar cs) dist most z ws ids) r out'
  unfolding second when◌then◌else◌
  second_done x b v y p =
      let a : AnswersRegions (region_outcome dense (lent w h is ks ar cs) dist most z ws ids) (Ok v) ws' ids' = rw (← y) b in
      rw (
        eq-eqb (region_outcome dense (lent w h is ks ar cs) dist most z ws ids).refused 0 (sym a.refused),
        ← listing-shown w h is ks ar cs most (region_outcome dense (lent w h is ks ar cs) dist most z ws ids),
        ← a.most,
        ← a.over,
        ← a.cut,
        ← a.ids,
      ) p

regions_accepted : (F : Field) (dist : List ℕ) (most : ℕ) (z : Sizes) (ws ids : List ℕ) → (region_outcome dense F dist most z ws ids).refused ≡ 0
    → refusal F (length dist ∷ length ids ∷ []) ≡ 0
unfolding region_outcome
regions_accepted F dist most z ws ids =
    if-ind (λ (o : RegionOutcome). o.refused ≡ 0 → refusal F (length dist ∷ length ids ∷ []) ≡ 0)
    (not (eqb (region_refusal F (length dist ∷ length ids ∷ []) (length ws) dist most) 0))
    (λ e h. absurd (eqb-false _ _ (not-true _ e) h))
    (λ e. if-ind (λ (o : RegionOutcome). o.refused ≡ 0 → refusal F (length dist ∷ length ids ∷ []) ≡ 0) (not (eqb (stops F dist most z.border) 0))
    (λ u h. absurd (eqb-false _ _ (not-true _ u) h))
    (λ _ _. accepted F (length dist ∷ length ids ∷ []) (length ws) dist most (eqb-true _ _ (not-false _ e))))

-- the field is as the listing needs it
pub listable : (w h : ℕ) (is ks ar cs dist : List ℕ) (most : ℕ) (z : Sizes) (ws ids ws' ids' out : List ℕ) (x : Result Regions Refusal) (v : Regions) → Fitting w h ar ids out
    → AnswersRegions (region_outcome dense (lent w h is ks ar cs) dist most z ws ids) x ws' ids' → x ≡ Ok v → length ids' ≡ length ids → Listable w h is ks ids' out
listable w h is ks ar cs dist most z ws ids ws' ids' out x v f b y n =
    let a : AnswersRegions (region_outcome dense (lent w h is ks ar cs) dist most z ws ids) (Ok v) ws' ids' = rw (← y) b in
    let F : Field = lent w h is ks ar cs in
    let none = regions_accepted F dist most z ws ids (sym a.refused) in
    let c = (reached_of F (length dist ∷ length ids ∷ []) none).celled in
    record {
      high = c.short;
      indices = c.indexed;
      counts = c.counted;
      few_cells = f.cells;
      few_spans = omega (arith, n, f.idents, f.spans);
      cells = rw (n, f.idents) c.cells;
      room = f.room;
    }

-- ---------------------------------------------------------------- the outcomes, whatever the lent lists hold

module _ (F : Field) (raw bl : List ℕ) where
  done_is : refusal F (length raw ∷ length bl ∷ []) ≡ 0 → distance_outcome F raw bl ≡ record { refused = 0; most = greatest (raw_of F); raw = raw_of F; blurred = blur F (raw_of F) }
  unfolding distance_outcome when◌then◌else◌
  done_is e = rw (eq-eqb _ 0 e)

  refused_is : (refusal F (length raw ∷ length bl ∷ []) ≡ 0 → ⊥) → (distance_outcome F raw bl).refused ≡ refusal F (length raw ∷ length bl ∷ [])
  unfolding distance_outcome when◌then◌else◌
  refused_is e = rw (ne_eqb _ 0 e)

  distance_accepted : (distance_outcome F raw bl).refused ≡ 0 → refusal F (length raw ∷ length bl ∷ []) ≡ 0
  unfolding distance_outcome
  distance_accepted = if-ind (λ (o : DistanceOutcome). o.refused ≡ 0 → refusal F (length raw ∷ length bl ∷ []) ≡ 0) (eqb (refusal F (length raw ∷ length bl ∷ [])) 0)
      (λ e _. eqb-true _ _ e) (λ e h. absurd (eqb-false _ _ e h))

module _ (F : Field) (z : Sizes) (dist : List ℕ) (most : ℕ) (ws ids : List ℕ) where
  passes : region_refusal F (length dist ∷ length ids ∷ []) (length ws) dist most ≡ 0 → not (eqb (region_refusal F (length dist ∷ length ids ∷ []) (length ws) dist most) 0) ≡ false
  passes e = rw (eq-eqb (region_refusal F (length dist ∷ length ids ∷ []) (length ws) dist most) 0 e) refl

  second-listed : region_refusal F (length dist ∷ length ids ∷ []) (length ws) dist most ≡ 0 → stops F dist most z.border ≡ 0
      → let v = formed dense (regions F z.least z.merge (grown F dist most z.border).ids (grown F dist most z.border).next) in
      second F dist most z ws ids ≡ listing F most (record { refused = 0; most = v.most; over = v.over; cut = v.cut; workspace = replicate (length ws) 0; ids = v.ids })
  unfolding second region_outcome when◌then◌else◌
  second-listed e o = let p : not (eqb (stops F dist most z.border) 0) ≡ false = rw (eq-eqb (stops F dist most z.border) 0 o) refl in rw (passes e, p)

  second_stopped : region_refusal F (length dist ∷ length ids ∷ []) (length ws) dist most ≡ 0 → (stops F dist most z.border ≡ 0 → ⊥)
      → second F dist most z ws ids ≡ refused_line (stops F dist most z.border)
  unfolding second region_outcome when◌then◌else◌
  second_stopped e o =
      let f = ne_eqb (stops F dist most z.border) 0 o in
      let p : not (eqb (stops F dist most z.border) 0) ≡ true = rw f refl in
      rw (passes e, p, f)

  region_number : (region_refusal F (length dist ∷ length ids ∷ []) (length ws) dist most ≡ 0 → ⊥)
      → (region_outcome dense F dist most z ws ids).refused ≡ region_refusal F (length dist ∷ length ids ∷ []) (length ws) dist most
  unfolding region_outcome when◌then◌else◌
  region_number e =
      let p : not (eqb (region_refusal F (length dist ∷ length ids ∷ []) (length ws) dist most) 0) ≡ true = rw (ne_eqb (region_refusal F (length dist ∷ length ids ∷ []) (length ws) dist most) 0 e) refl in
      rw p

  second_number : (region_refusal F (length dist ∷ length ids ∷ []) (length ws) dist most ≡ 0 → ⊥)
      → second F dist most z ws ids ≡ refused_line (region_refusal F (length dist ∷ length ids ∷ []) (length ws) dist most)
  unfolding second when◌then◌else◌
  second_number e = rw (region_number e, ne_eqb (region_refusal F (length dist ∷ length ids ∷ []) (length ws) dist most) 0 e)

-- the same lengths, the same print
second-same : (F : Field) (z : Sizes) (dist : List ℕ) (most : ℕ) (ws ids ws₂ ids₂ : List ℕ) → length ws ≡ length ws₂ → length ids ≡ length ids₂
    → second F dist most z ws ids ≡ second F dist most z ws₂ ids₂
second-same F z dist most ws ids ws₂ ids₂ p q =
    let e : region_refusal F (length dist ∷ length ids ∷ []) (length ws) dist most ≡ region_refusal F (length dist ∷ length ids₂ ∷ []) (length ws₂) dist most = rw (p, q) in
    elim (ℕ_discrete (region_refusal F (length dist ∷ length ids ∷ []) (length ws) dist most) 0) [
      | yes h ↦ elim (ℕ_discrete (stops F dist most z.border) 0) [
        | yes o ↦ second-listed F z dist most ws ids h o ∙ rw p (sym (second-listed F z dist most ws₂ ids₂ (sym e ∙ h) o))
        | no o ↦ second_stopped F z dist most ws ids h o ∙ sym (second_stopped F z dist most ws₂ ids₂ (sym e ∙ h) o)
      ]
      | no h ↦ second_number F z dist most ws ids (λ y. h y) ∙ ap refused_line e ∙ sym (second_number F z dist most ws₂ ids₂ (λ y. h (e ∙ y)))
    ]

-- ---------------------------------------------------------------- both entries

module _ (F : Field) (z : Sizes) (raw bl ws ids : List ℕ) (p : length raw ≡ spans F) (q : length bl ≡ spans F) (n : length ws ≡ 128 * spans F + 4096) (m : length ids ≡ spans F) where
  abbrev zeros : List ℕ
  zeros = replicate (spans F) 0

  zeros-length : length zeros ≡ spans F
  zeros-length = length-replicate (spans F) (let o : ℕ = 0 in o)

  lens : refusal F (length raw ∷ length bl ∷ []) ≡ refusal F (length zeros ∷ length zeros ∷ [])
  lens = rw (p, q, zeros-length)

  ran_is : ran (record { field = F; sizes = z })
      ≡ (when eqb (distance_outcome F zeros zeros).refused 0
      then second F (distance_outcome F zeros zeros).blurred (distance_outcome F zeros zeros).most z (replicate (128 * spans F + 4096) 0) zeros
      else refused_line (distance_outcome F zeros zeros).refused)
  unfolding ran second
  ran_is = refl

  pub ran_refused : (x : Result ℕ Refusal) (raw' bl' : List ℕ) → Answers (distance_outcome F raw bl) x raw' bl' → (k : Refusal) → x ≡ Err k → (j : ℕ) → j ≡ number_of k
      → (out : List ℕ) (r : ℕ) (out' : List ℕ) → Prints out (refused_line j) r out' → Prints out (ran (record { field = F; sizes = z })) r out'
  unfolding when◌then◌else◌
  ran_refused v raw' bl' b k u j e out r out' y =
      let a : Answers (distance_outcome F raw bl) (Err k) raw' bl' = rw (← u) b in
      let bad : refusal F (length zeros ∷ length zeros ∷ []) ≡ 0 → ⊥ = λ x. omega (arith, number_pos k, a.refused, ap (λ (o : DistanceOutcome). o.refused) (done_is F raw bl (lens ∙ x))) in
      let f : (distance_outcome F zeros zeros).refused ≡ j
      = refused_is F zeros zeros bad ∙ sym lens ∙ sym (refused_is F raw bl (λ x. bad (sym lens ∙ x))) ∙ sym a.refused ∙ sym e in
      rw (ran_is, ne_eqb (distance_outcome F zeros zeros).refused 0 (λ x. omega (arith, number_pos k, e, f)), f) y

  pub ran_done : (x : Result ℕ Refusal) (raw' bl' : List ℕ) → Answers (distance_outcome F raw bl) x raw' bl' → (most : ℕ) → x ≡ Ok most → (out : List ℕ) (r : ℕ) (out' : List ℕ)
      → Prints out (second F bl' most z ws ids) r out' → Prints out (ran (record { field = F; sizes = z })) r out'
  unfolding when◌then◌else◌
  ran_done v raw' bl' b most u out r out' y =
      let a : Answers (distance_outcome F raw bl) (Ok most) raw' bl' = rw (← u) b in
      let c = distance_accepted F raw bl (sym a.refused) in
      let e : distance_outcome F zeros zeros ≡ distance_outcome F raw bl = done_is F zeros zeros (sym lens ∙ c) ∙ sym (done_is F raw bl c) in
      rw (
        ran_is,
        e,
        eq-eqb (distance_outcome F raw bl).refused 0 (sym a.refused),
        ← a.most,
        ← a.blurred,
        second-same F z bl' most (replicate (128 * spans F + 4096) 0) zeros ws ids (length-replicate (128 * spans F + 4096) (let o : ℕ = 0 in o) ∙ sym n) (zeros-length ∙ sym m),
      )
      y

-- ---------------------------------------------------------------- the file

module _ (bytes : List ℕ) (out : List ℕ) (r : ℕ) (out' : List ℕ) where
  module _ (is ks ar cs is' ks' ar' cs' : List ℕ) (x : Result (Header × ℕ) FileRefusal) (b : Reads bytes is ks ar cs x is' ks' ar' cs') where
    pub file_refused : (k : FileRefusal) → x ≡ Err k → (j : ℕ) → j ≡ file_number k → Prints out (refused_line j) r out' → Prints out (printed bytes) r out'
    unfolding printed answered
    file_refused k u j f y =
        let e : refused (file_number k) ≡ read_file bytes = ap (λ (v : Result (Header × ℕ) FileRefusal). reading_of v is' ks' ar' cs') (sym u) ∙ b.same in
        rw (← e, ← f) y

    module _ (t : Header) (n : ℕ) (u : x ≡ Ok (t, n)) where
      pub file_described : Prints out (ran (record { field = first t.w t.h (t.w * t.h) n is' ks' ar' cs'; sizes = sizes_of t })) r out' → Prints out (printed bytes) r out'
      unfolding printed answered
      file_described y =
          let e : described (record { field = first t.w t.h (t.w * t.h) n is' ks' ar' cs'; sizes = sizes_of t }) ≡ read_file bytes
          = ap (λ (v : Result (Header × ℕ) FileRefusal). reading_of v is' ks' ar' cs') (sym u) ∙ b.same in
          rw (← e) y

-- what is printed lies within out
pub prints-within : (out t : List ℕ) (r : ℕ) (out' : List ℕ) → Prints out t r out' → r ≤ length out'
prints-within out t r out' p =
    let e : length (take r out') ≡ r = ap length p.bytes ∙ sym p.ends in
    omega (arith, length-take r out', e)
