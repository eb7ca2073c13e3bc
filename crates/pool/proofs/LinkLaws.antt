-- Places linked, from the first on: a place becomes the last of its id, and its link is what was the last. Links and lasts lie apart, and past the places, so
-- what the places hold stays. A place that holds an id from m on is nobody's: it is the last of no id below m.
use Prim.Native.Nat.{ℕ, zero, suc, ◌+◌, ◌-◌, ◌*◌, ◌≤◌, ◌<◌}
use native.Mathlib.Omega.{arith}
use native.Mathlib.Decide.{ℕ_discrete}
use mathlib.Core.Path.{◌≡◌, refl, sym, ap, ◌∙◌}
use mathlib.Core.List.{List}
use lib.ListN.{length, get_or}
use borrow.Author.Tests.{eq-eqb, ne_eqb}
use Rattle.rules.specs.Base.{when◌then◌else◌}
use Rattle.space.specs.Space.{Frame, Clear}
use Rattle.space.proofs.Laws.{get_or_before, frame_none, frame_then, frame_wider}
use Rattle.table.specs.View.{wide}
use Rattle.table.proofs.ViewLaws.{wide-same}
use Rattle.table.proofs.PlaceLaws.{put, put_other, put-wide, put_frame}
use Rattle.pool.specs.Links.{last_named, held_from, Linked, LinkRoom, LinkedOne}

-- ---- the last place that names an id

module _ (named : ℕ → ℕ) (r : ℕ) where
  last_here : (q : ℕ) → named q ≡ r → last_named named r (suc q) ≡ suc q
  unfolding last_named when◌then◌else◌
  last_here q e = rw (eq-eqb (named q) r e) refl

  last_past : (q : ℕ) → (named q ≡ r → ⊥) → last_named named r (suc q) ≡ last_named named r q
  unfolding last_named when◌then◌else◌
  last_past q e = rw (ne_eqb (named q) r e) refl

  last_zero : last_named named r 0 ≡ 0
  unfolding last_named
  last_zero = refl

  pub last_le : (k : ℕ) → last_named named r k ≤ k
  last_le zero = rw last_zero (omega arith)
  last_le (suc k) = elim (ℕ_discrete (named k) r) [
    | yes e ↦ rw (last_here k e) (omega arith)
    | no e ↦ rw (last_past k e) (omega (arith, last_le k))
  ]

  pub last-names : (k j : ℕ) → last_named named r k ≡ suc j → named j ≡ r
  last-names zero j h = absurd (omega (arith, last_zero))
  last-names (suc k) j h = elim (ℕ_discrete (named k) r) [
    | yes e ↦
        let d : j ≡ k = omega (arith, last_here k e) in
        ap named d ∙ e
    | no e ↦ last-names k j (sym (last_past k e) ∙ h)
  ]

  pub last_none : (k j : ℕ) → last_named named r k ≤ j → j < k → named j ≡ r → ⊥
  last_none zero j h g = absurd (omega arith)
  last_none (suc k) j h g = elim (ℕ_discrete (named k) r) [
    | yes e ↦ absurd (omega (arith, last_here k e))
    | no e ↦ elim (ℕ_discrete j k) [
      | yes d ↦ λ f. e (ap named (sym d) ∙ f)
      | no d ↦ last_none k j (omega (arith, last_past k e)) (omega arith)
    ]
  ]

-- ---- one place

module _ (m p h top from q : ℕ) (ws : List ℕ) (R : LinkRoom m p h top from ws) (g : q < top - h) where
  -- as the code has it
  module _ (r v : ℕ) (ws₁ ws₂ : List ℕ) (e : r ≡ get_or ws (h + q) 0) (k : r < m) (w : v ≡ wide ws m (from + 2 * p + r)) (l : length ws₁ ≡ length ws) (s : ws₁ ≡ put ws p (from + q) v)
      (t : ws₂ ≡ put ws₁ m (from + 2 * p + r) (q + 1)) where
    one : (j : ℕ) → (j ≡ from + q → ⊥) → (j ≡ from + q + p → ⊥) → get_or ws₁ j 0 ≡ get_or ws j 0
    one j a b = rw s (put_other ws p (from + q) v j a b)

    two : (j : ℕ) → (j ≡ from + 2 * p + r → ⊥) → (j ≡ from + 2 * p + r + m → ⊥) → get_or ws₂ j 0 ≡ get_or ws₁ j 0
    two j a b = rw t (put_other ws₁ m (from + 2 * p + r) (q + 1) j a b)

    inside : q < p
    inside = omega (arith, R.upto)

    one_here : wide ws₁ p (from + q) ≡ v
    one_here = rw s (put-wide ws p (from + q) v (omega (arith, inside)) (omega (arith, inside, R.into)))

    two_here : wide ws₂ m (from + 2 * p + r) ≡ q + 1
    two_here = rw t (put-wide ws₁ m (from + 2 * p + r) (q + 1) (omega arith) (rw l (omega (arith, R.into))))

    -- no last is a link
    two_links : (j : ℕ) → j < p → wide ws₂ p (from + j) ≡ wide ws₁ p (from + j)
    two_links j a = wide-same ws₁ ws₂ p (from + j) (two (from + j) (λ d. omega arith) (λ d. omega arith)) (two (from + j + p) (λ d. omega arith) (λ d. omega arith))

    pub link_one : LinkedOne m p h from q ws ws₂
    link_one = record {
      nobody = λ a. absurd (omega arith);
      link = λ _. rw (← e) (two_links q inside ∙ one_here ∙ w);
      last = λ _. rw (← e) two_here;
      links = λ j a b. two_links j a
          ∙ wide-same ws ws₁ p (from + j) (one (from + j) (λ d. b (omega arith)) (λ d. omega arith)) (one (from + j + p) (λ d. omega (arith, inside)) (λ d. b (omega arith)));
      lasts = λ x a b.
          let c : x ≡ r → ⊥ = λ d. b (d ∙ e) in
          wide-same ws₁ ws₂ m (from + 2 * p + x) (two (from + 2 * p + x) (λ d. c (omega arith)) (λ d. omega arith)) (two (from + 2 * p + x + m) (λ d. omega arith) (λ d. c (omega arith)))
          ∙ wide-same ws ws₁ m (from + 2 * p + x) (one (from + 2 * p + x) (λ d. omega (arith, inside)) (λ d. omega (arith, inside)))
          (one (from + 2 * p + x + m) (λ d. omega (arith, inside)) (λ d. omega (arith, inside)));
      kept = frame_then {ws' = ws₁} (rw s (put_frame ws p (from + q) v from (from + 2 * p + 2 * m) (omega arith) (omega (arith, inside))))
          (rw t (put_frame ws₁ m (from + 2 * p + r) (q + 1) from (from + 2 * p + 2 * m) (omega arith) (omega arith)));
    }

-- ---- all of them

-- the places before q are linked as they were named, and only links are written
pub record Linking (m p h top from q : ℕ) (ws ws' : List ℕ) : Type 0 where
  pub each : (named : ℕ → ℕ) → ((j : ℕ) → j < top - h → named j ≡ get_or ws (h + j) 0) → Linked m p from q named ws'
  pub kept : Frame from (from + 2 * p + 2 * m) ws ws'

pub linking_none : (m p h top from : ℕ) (ws : List ℕ) → Clear (from + 2 * p) (from + 2 * p + 2 * m) ws → Linking m p h top from 0 ws ws
unfolding wide
linking_none m p h top from ws C = record {
  each = λ named _. record {
    lasts = λ r g.
        let a = C.blank (from + 2 * p + r) (omega arith) (omega arith) in
        let b = C.blank (from + 2 * p + r + m) (omega arith) (omega arith) in
        rw (a, b) (sym (last_zero named r));
    links = λ q g. absurd (omega arith);
  };
  kept = frame_none from (from + 2 * p + 2 * m) ws;
}

-- ws₁ is lent, and ws₀ has the lasts cleared
module _ (m p h top from : ℕ) (ws₁ ws₀ ws : List ℕ) (R : LinkRoom m p h top from ws₁) where
  pub room_same : length ws ≡ length ws₁ → LinkRoom m p h top from ws
  room_same l = record { order = R.order; upto = R.upto; past = R.past; into = rw l R.into; fits = R.fits }

  module _ (q : ℕ) (L : Linking m p h top from q ws₀ ws) where
    held_same : (j : ℕ) → j < top - h → get_or ws (h + j) 0 ≡ get_or ws₀ (h + j) 0
    held_same j g = get_or_before (h + j) L.kept (omega (arith, R.upto, R.past))

    module _ (g : q < top - h) (ws' : List ℕ) (N : LinkedOne m p h from q ws ws') where
      linked_next : (named : ℕ → ℕ) → Linked m p from q named ws → named q ≡ get_or ws (h + q) 0 → Linked m p from (suc q) named ws'
      linked_next named K d = record {
        lasts = λ r a. elim (ℕ_discrete r (get_or ws (h + q) 0)) [
          | yes e ↦
              let b : named q ≡ r = d ∙ sym e in
              rw (last_here named r q b, e) (N.last (omega arith) ∙ omega arith)
          | no e ↦ N.lasts r a e ∙ K.lasts r a ∙ sym (last_past named r q (λ b. e (sym b ∙ d)))
        ];
        links = λ j a b. elim (ℕ_discrete j q) [
          | yes e ↦
              let c : get_or ws (h + q) 0 < m = rw (e, d) at b in
              rw (e, d) (N.link c ∙ K.lasts (get_or ws (h + q) 0) c)
          | no e ↦ N.links j (omega (arith, R.upto)) e ∙ K.links j (omega arith) b
        ];
      }

      pub linking_go : Linking m p h top from (q + 1) ws₀ ws'
      linking_go =
          let z : q + 1 ≡ suc q = omega arith in
          record { each = λ named f. rw z (linked_next named (L.each named f) (f q g ∙ sym (held_same q g))); kept = frame_then L.kept N.kept }

    -- the places held the same before
    module _ (F : Frame (from + 2 * p) (from + 2 * p + 2 * m) ws₁ ws₀) where
      pub linking_all : q ≤ top - h → top - h ≤ q → Linked m p from (top - h) (held_from ws₁ h) ws
      linking_all a b =
          let e : q ≡ top - h = omega arith in
          rw e at (L.each (held_from ws₁ h) (λ j g. sym (get_or_before (h + j) F (omega (arith, R.upto, R.past)))))

      pub linking_kept : Frame from (from + 2 * p + 2 * m) ws₁ ws
      linking_kept = frame_then (frame_wider from (from + 2 * p + 2 * m) F (omega arith) (omega arith)) L.kept
