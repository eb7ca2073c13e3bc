-- Rooms over a net, with connections taken back too, are rooms of the field: a connection that is taken back is answered (refusal 6), so the
-- answer goes the same way forward; and the net's neighbours and areas are the field's. Assumes nothing.
use Prim.Native.Nat.{ℕ, ◌+◌, ◌%◌, ◌<◌}
use native.Mathlib.Omega.{arith}
use mathlib.Core.Path.{◌≡◌, sym, ◌∙◌}
use mathlib.Core.List.{List}
use Rattle.rules.specs.Field.{Field, none}
use Rattle.rules.specs.Field as field
use Rattle.rules.specs.Net.{net_of, near, area_of}
use Rattle.laws.proofs.Basics.{nonzero_in}
use Rattle.laws.proofs.Cells.{Passed}
use Rattle.laws.proofs.Nets.{near_net, linked}
use Rattle.laws.proofs.Strides.{answered}
use Rattle.rooms.specs.Rooms.{Bears, Joined, Rooms}
use Rattle.rooms.specs.Rooms as room
use Rattle.rooms.specs.Linked.{Linked, stay, goes, comes, LinkedRooms}

module _ (F : Field) (lens : List ℕ) (ok : Passed F lens) where
  near_is : (s d : ℕ) → d < 4 → near (net_of F) s d ≡ field.near F s d
  near_is = near_net F (linked F lens ok)

  -- through a class of spans of the field
  module _ (C : ℕ → Type 0) (inside : (s : ℕ) → C s → s < field.spans F) where
    begins : (s t : ℕ) → Linked (net_of F) C s t → C s
    begins s t (stay c) = c
    begins s t (goes d h c r) = c
    begins s t (comes u d h e c r) = c

    pub forward : (s t : ℕ) → Linked (net_of F) C s t → Joined F C s t
    forward s t (stay c) = room.stay c
    forward s t (goes d h c r) =
        let y : Joined F C (field.near F s d) t = rw (near_is s d h) at (forward (near (net_of F) s d) t r) in
        room.goes d h c y
    forward s t (comes u d h e c r) =
        let v : near (net_of F) u d ≡ none → ⊥ = λ z. omega (arith, inside s c, (answered F lens ok).few, sym e ∙ z) in
        let q : near (net_of F) (near (net_of F) u d) ((d + 2) % 4) ≡ u = (answered F lens ok).back u d (inside u (begins u t r)) h v in
        let y : near (net_of F) s ((d + 2) % 4) ≡ u = rw e at q in
        let z : field.near F s ((d + 2) % 4) ≡ u = sym (near_is s ((d + 2) % 4) (omega arith)) ∙ y in
        let w : Joined F C (field.near F s ((d + 2) % 4)) t = rw z (forward u t r) in
        room.goes ((d + 2) % 4) (omega arith) c w

  pub rooms_forward : (first most : ℕ) (ids : List ℕ) → LinkedRooms (net_of F) first ids most → Rooms F first ids most
  unfolding area_of field.area_of
  rooms_forward first most ids g = record {
    size = g.size;
    bare = g.bare;
    one = g.one;
    join = λ k s t p x y. forward (Bears ids k) (λ u b. rw (← g.size) (nonzero_in ids u (λ z. let q : k ≡ 0 = sym b ∙ z in omega (arith, p.0)))) s t (g.join k s t p x y);
    used = g.used;
    borne = g.borne;
  }
